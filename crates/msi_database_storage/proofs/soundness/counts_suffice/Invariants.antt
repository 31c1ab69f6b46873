use Rattle.msi_database_storage.proofs.SoundnessLemmas.{CountsSoFar}
use Rattle.msi_database_storage.proofs.soundness.counts_suffice.Given as goal

abbrev pub invariant-loop-i : goal.invariant-loop-i
invariant-loop-i l = CountsSoFar l.pool.places l.census l.i
