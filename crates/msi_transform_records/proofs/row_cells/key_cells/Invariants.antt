use Rattle.std.proofs.Common.{◌≡◌, ◌++◌}
use Rattle.msi_transform_records.specs.RecordCells.{key_of, key_of_record}
use Rattle.msi_transform_records.proofs.ToldLemmas.{cells_after}
use Rattle.msi_transform_records.proofs.row_cells.key_cells.Given as goal

-- the cells so far, and those of the key that are left, are all
abbrev pub invariant-loop-i : goal.invariant-loop-i
invariant-loop-i l = l.key.items ++ key_of (cells_after l.i l.shapes l.record.action l.rest) ≡ key_of_record l.shapes l.record
