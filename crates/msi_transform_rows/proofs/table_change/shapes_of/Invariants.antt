use Rattle.std.proofs.Common.{◌≡◌, take}
use Rattle.msi_transform.specs.Transforms.{shapes_of}
use Rattle.msi_transform_rows.proofs.table_change.shapes_of.Given as goal

abbrev pub invariant-loop-column : goal.invariant-loop-column
invariant-loop-column l = record {
  shapes : l.shapes.items ≡ shapes_of (take l.column-index l.columns);
}
