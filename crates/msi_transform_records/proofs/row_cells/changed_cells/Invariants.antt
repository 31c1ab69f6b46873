use Rattle.std.proofs.Common.{◌≡◌, ◌++◌}
use Rattle.msi_transform_records.specs.RecordCells.{changes_of, changes_of_record}
use Rattle.msi_transform_records.proofs.ToldLemmas.{cells_after}
use Rattle.msi_transform_records.proofs.row_cells.changed_cells.Given as goal

-- the changes so far, and those that are left, are all
abbrev pub invariant-loop-i : goal.invariant-loop-i
invariant-loop-i l = l.changes.items ++ changes_of (cells_after l.i l.shapes l.record.action l.rest) ≡ changes_of_record l.shapes l.record
