use Rattle.std.proofs.Common.{◌≡◌, ◌+◌, drop, true}
use Rattle.msi_transform_making.specs.Making.{can_be_marked, mask_for}
use Rattle.msi_transform_making.proofs.differing.mask_for.Given as goal

abbrev pub invariant-loop-column : goal.invariant-loop-column
invariant-loop-column l = record {
  mask : l.mask + mask_for (drop l.column-index l.columns) ≡ mask_for l.columns;
  bits : can_be_marked (drop l.column-index l.columns) ≡ true;
}
