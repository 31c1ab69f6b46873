use Rattle.std.proofs.Common.{◌≡◌}
use Rattle.msi_transform_records.specs.Actions.{told}
use Rattle.msi_transform_records.specs.Cells.{cells_at}
use Rattle.msi_transform_records.proofs.CellsLemmas.{with_front}
use Rattle.msi_transform_records.proofs.ToldLemmas.{told_after}
use Rattle.msi_transform_records.proofs.reading.read_cells.Given as goal

-- the cells so far, in front of those that are left, are all
abbrev pub invariant-loop-i : goal.invariant-loop-i
invariant-loop-i l = with_front l.cells.items (cells_at l.pool (told_after l.i l.shapes l.action) l.rest) ≡ cells_at l.pool (told l.shapes l.action) l.bytes
