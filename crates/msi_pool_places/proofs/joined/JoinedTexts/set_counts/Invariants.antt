use Rattle.std.proofs.Common.{◌≡◌, ◌≤◌}
use Rattle.std.specs.Prelude.{vec_len}
use Rattle.msi_pool_places.proofs.RecountingLemmas.{changed_before, set_before}
use Rattle.msi_pool_places.specs.JoinedTexts.{IsJoined, places_joined}
use Rattle.msi_pool_places.proofs.joined.JoinedTexts.set_counts.Given as goal

abbrev pub invariant-loop-i : goal.invariant-loop-i
invariant-loop-i l = record {
  joined : IsJoined l.self;
  many : vec_len l.self.counts ≡ vec_len l.initial.self.counts;
  places : places_joined l.self ≡ set_before l.counts (places_joined l.initial.self) l.i;
  few : l.changed ≤ l.i;
  changed : l.changed ≡ changed_before l.counts (places_joined l.initial.self) l.i;
}
