use Rattle.std.proofs.Common.{◌≡◌, take}
use Rattle.msi_pool_places.specs.JoinedTexts.{places_joined}
use Rattle.msi_pool_places.proofs.joined.JoinedTexts.to_places.Given as goal

abbrev pub invariant-loop-at : goal.invariant-loop-at
invariant-loop-at l = l.places.items ≡ take l.at (places_joined l.self)
