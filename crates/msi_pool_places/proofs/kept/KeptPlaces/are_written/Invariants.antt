use Rattle.std.proofs.Common.{take}
use Rattle.std.specs.Prelude.{◌↔◌, IsTrue}
use Rattle.msi_pool_places.specs.Pool.{PlacesWritten}
use Rattle.msi_pool_places.specs.Indexing.{places_of}
use Rattle.msi_pool_places.proofs.kept.KeptPlaces.are_written.Given as goal

abbrev pub invariant-loop-at : goal.invariant-loop-at
invariant-loop-at l = record {
  exact : IsTrue l.all ↔ PlacesWritten (take l.at (places_of l.self));
}
