use Rattle.std.proofs.Common.{◌≡◌, Ok, take}
use Rattle.std.specs.List.{AllByRecursion}
use Rattle.msi_table.specs.Rows.{AreAsWide}
use Rattle.msi_query.specs.Rows.{sides_cells}
use Rattle.msi_query_rows.proofs.sides.relations_of.Given as goal

abbrev pub invariant-loop-side : goal.invariant-loop-side
invariant-loop-side g l = record {
  given : sides_cells (g.T.Tables.table l.tables) (take l.side-index l.sides) ≡ Ok l.relations.items;
  wide : AllByRecursion (λ r. AreAsWide r.columns r.rows) l.relations.items;
}
