use Rattle.std.proofs.Common.{◌≡◌}
use Rattle.msi_transform_records.specs.Actions.{told}
use Rattle.msi_transform_records.specs.Cells.{cells_at}
use Rattle.msi_transform_records.proofs.CellsLemmas.{behind}
use Rattle.msi_transform_records.proofs.ToldLemmas.{told_after}
use Rattle.msi_transform_records.proofs.reading.skip_cells.Given as goal

-- what is behind the cells that are left is what is behind all
abbrev pub invariant-loop-i : goal.invariant-loop-i
invariant-loop-i l = behind (cells_at l.pool (told_after l.i l.shapes l.action) l.rest) ≡ behind (cells_at l.pool (told l.shapes l.action) l.bytes)
