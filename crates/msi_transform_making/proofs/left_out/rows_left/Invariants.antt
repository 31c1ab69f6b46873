use Rattle.std.proofs.Common.{◌+◌, ◌-◌, ◌≤◌, length}
use Rattle.msi_transform_making.proofs.LeftOutSteps.{AreLeftSoFar}
use Rattle.msi_transform_making.proofs.left_out.rows_left.Given as goal

abbrev pub invariant-loop-i : goal.invariant-loop-i
invariant-loop-i l = record {
  old_within : l.i ≤ length l.old.rows;
  new_within : l.j ≤ length l.new.rows;
  so_far : AreLeftSoFar l.texts l.old.rows l.new.rows l.i l.j l.left.items l.others.items;
}

abbrev pub decreases-loop-i : goal.decreases-loop-i
decreases-loop-i l = length l.old.rows - l.i + (length l.new.rows - l.j)
