use Rattle.msi_transform_making.proofs.LeftOutSteps.{AreAlikeSoFar}
use Rattle.msi_transform_making.proofs.left_out.are_told_alike.Given as goal

abbrev pub invariant-loop-i : goal.invariant-loop-i
invariant-loop-i l = record { alike : AreAlikeSoFar l.columns l.others l.i }
