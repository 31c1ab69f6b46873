use Rattle.std.proofs.Common.{◌≡◌, ◌++◌, drop, map}
use Rattle.msi_transform_applying.specs.Applying.{null_in}
use Rattle.msi_transform_applying.proofs.lengthening.lengthened_row.Given as goal

-- with null in the columns to come there is null in all
abbrev pub invariant-loop-column : goal.invariant-loop-column
invariant-loop-column l = record {
  whole : l.cells.items ++ map null_in (drop l.column-index l.added) ≡ l.fn.row ++ map null_in l.added;
}
