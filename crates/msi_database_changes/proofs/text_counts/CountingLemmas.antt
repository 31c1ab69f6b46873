-- What is counted beside the tables of a list.
use Rattle.std.proofs.Common.{◌≡◌, Bool, true, false, List, [], sym, subst}
use Rattle.std.specs.Prelude.{if◌then◌else◌}
use Rattle.msi_table_cells.specs.declared.cell.ValueRef.{ValueRef}
use Rattle.msi_table.specs.Census.{CensusDef, CountsMore, numbers_of_rows}
use Rattle.msi_table.proofs.CensusLemmas.{nothing_more}

module _ (rows : List (List ValueRef)) (before after : CensusDef) (b : Bool) where
  pub listed_counted : b ≡ true → CountsMore (numbers_of_rows (if b then [] else rows)) before before
  listed_counted listed = subst (λ b. CountsMore (numbers_of_rows (if b then [] else rows)) before before) (sym listed) (nothing_more before)

  pub beside_counted : b ≡ false → CountsMore (numbers_of_rows rows) before after → CountsMore (numbers_of_rows (if b then [] else rows)) before after
  beside_counted none more = subst (λ b. CountsMore (numbers_of_rows (if b then [] else rows)) before after) (sym none) more
