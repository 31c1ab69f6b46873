use Rattle.std.proofs.Common.{◌≡◌}
use Rattle.msi_pool_places.proofs.RecountingLemmas.{changed_before, set_before}
use Rattle.msi_pool_places.proofs.places.set_counts.Given as goal

abbrev pub invariant-loop-i : goal.invariant-loop-i
invariant-loop-i l = record {
  places : l.places.items ≡ set_before l.counts l.initial.places.items l.i;
  changed : l.changed ≡ changed_before l.counts l.initial.places.items l.i;
}
