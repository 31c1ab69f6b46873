use Rattle.std.proofs.Common.{length}
use Rattle.msi_pool_places.specs.TextJoining.{IsJoining, entries_left, places_read}
use Rattle.msi_pool.proofs.ReadTextsLemmas.{AreInFront}
use Rattle.msi_pool.proofs.stringpool.reading.texts_of.Given as goal

abbrev pub invariant-loop-entry : goal.invariant-loop-entry
invariant-loop-entry l = record {
  joining : IsJoining l.joiner;
  read : AreInFront l.codepage l.fn.entries l.bytes (entries_left l.joiner) (places_read l.joiner) l.rest;
}

abbrev pub decreases-loop-entry : goal.decreases-loop-entry
decreases-loop-entry l = length (entries_left l.joiner)
