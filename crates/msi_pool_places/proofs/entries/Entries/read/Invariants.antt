use Rattle.std.proofs.Common.{length}
use Rattle.msi_pool_places.proofs.ReadEntriesLemmas.{IsFront}
use Rattle.msi_pool_places.specs.TextJoining.{AreUnread, entries_with}
use Rattle.msi_pool_places.proofs.entries.Entries.read.Given as goal

abbrev pub invariant-loop-rest : goal.invariant-loop-rest
invariant-loop-rest l = record {
  front : IsFront l.bytes (entries_with l.lens l.counts.items) l.rest;
  unread : AreUnread l.lens l.counts.items;
}

abbrev pub decreases-loop-rest : goal.decreases-loop-rest
decreases-loop-rest l = length l.rest
