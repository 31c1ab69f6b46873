use Rattle.std.proofs.Common.{◌≡◌, ◌++◌}
use Rattle.msi_transform_records.specs.Actions.{told}
use Rattle.msi_transform_records.specs.Records.{told_bytes}
use Rattle.msi_transform_records.proofs.ToldLemmas.{told_after}
use Rattle.msi_transform_records.proofs.writing.push_cells.Given as goal

-- the bytes so far, and those of the cells that are left, are those of all
abbrev pub invariant-loop-i : goal.invariant-loop-i
invariant-loop-i l = record {
  all : l.bytes.items ++ told_bytes l.long (told_after l.i l.shapes l.action) l.rest ≡ l.fn.bytes.items ++ told_bytes l.long (told l.shapes l.action) l.cells;
}
