use Rattle.std.proofs.Common.{◌≡◌, false, take}
use Rattle.std.specs.List.{list_any}
use Rattle.msi_pool_places.specs.FirstFit.{is_fit}
use Rattle.msi_pool_places.specs.Indexing.{places_of}
use Rattle.msi_pool_places.proofs.kept.KeptPlaces.has_fit.Given as goal

abbrev pub invariant-loop-at : goal.invariant-loop-at
invariant-loop-at l = list_any (is_fit l.text) (take l.at (places_of l.self)) ≡ false
