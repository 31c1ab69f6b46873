use Rattle.std.proofs.Common.{◌≡◌}
use Rattle.msi_pool_places.proofs.ForgettingLemmas.{gone_through}
use Rattle.msi_pool_places.proofs.places.forget_texts.Given as goal

abbrev pub invariant-loop-i : goal.invariant-loop-i
invariant-loop-i l = l.places.items ≡ gone_through l.is_named l.initial.places.items l.i
