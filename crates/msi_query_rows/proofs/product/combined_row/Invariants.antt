use Rattle.std.proofs.Common.{◌≡◌, ◌++◌, drop}
use Rattle.msi_query_rows.specs.Combinations.{combined, rows_of_each}
use Rattle.msi_query_rows.proofs.product.combined_row.Given as goal

abbrev pub invariant-loop-i : goal.invariant-loop-i
invariant-loop-i l = record {
  row : l.row.items ++ combined (drop l.i (rows_of_each l.relations)) (drop l.i l.combination) ≡ combined (rows_of_each l.relations) l.combination;
}
