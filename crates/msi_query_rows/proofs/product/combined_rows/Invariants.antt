use Rattle.std.proofs.Common.{◌≡◌, map, take}
use Rattle.msi_query_rows.specs.Combinations.{combined, rows_of_each}
use Rattle.msi_query_rows.proofs.product.combined_rows.Given as goal

abbrev pub invariant-loop-combination : goal.invariant-loop-combination
invariant-loop-combination l = record {
  rows : l.rows.items ≡ map (combined (rows_of_each l.relations)) (take l.combination-index l.combinations);
}
