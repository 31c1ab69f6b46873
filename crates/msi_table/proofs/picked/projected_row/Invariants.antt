use Rattle.std.proofs.Common.{◌≡◌, map, take}
use Rattle.msi_table.specs.Rows.{cell_at}
use Rattle.msi_table.proofs.picked.projected_row.Given as goal

abbrev pub invariant-loop-place : goal.invariant-loop-place
invariant-loop-place l = record {
  cells : l.cells.items ≡ map (cell_at l.row) (take l.place-index l.places);
}
