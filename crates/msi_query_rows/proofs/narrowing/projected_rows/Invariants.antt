use Rattle.std.proofs.Common.{◌≡◌, map, take}
use Rattle.msi_table.specs.Rows.{cells_at}
use Rattle.msi_query_rows.proofs.narrowing.projected_rows.Given as goal

abbrev pub invariant-loop-row : goal.invariant-loop-row
invariant-loop-row l = record {
  projected : l.projected.items ≡ map (cells_at l.places) (take l.row-index l.rows);
}
