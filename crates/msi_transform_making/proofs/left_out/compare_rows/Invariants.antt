use Rattle.msi_transform_making.proofs.LeftOutSteps.{AreSameSoFar}
use Rattle.msi_transform_making.proofs.left_out.compare_rows.Given as goal

abbrev pub invariant-loop-i : goal.invariant-loop-i
invariant-loop-i l = record { same : AreSameSoFar l.texts l.row l.other l.i }
