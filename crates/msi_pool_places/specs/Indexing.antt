-- Places, and what is kept of them: as they were read until the first change, and with indexes from then on.
use Rattle.std.specs.Prelude.{◌≡◌, ◌≤◌, ℕ, List, length}
use Rattle.msi_pool_places.specs.Pool.{Place, CountsFit}
use Rattle.msi_pool_places.specs.PoolIndexes.{AreFree}
use Rattle.msi_pool_places.specs.JoinedTexts.{IsJoined, places_joined}
use Rattle.msi_pool_places.specs.TextIndexes.{AreOpen}
use Rattle.msi_pool_places.specs.declared.indexed.IndexedPlaces.{IndexedPlaces}
use Rattle.msi_pool_places.specs.declared.kept.KeptPlaces.{KeptPlaces}
use Rattle.msi_pool_places.specs.declared.kept.KeptPlaces.TheVariants.{Read, Recounted, Indexed}

-- the number of places and the indexes are what the places say
pub record IsIndexed (all : IndexedPlaces) : Type 0 where
  pub many_is : all.many ≡ length all.places
  pub are_free : AreFree all.free all.places
  pub are_open : AreOpen all.texts all.places

-- the places, with indexes or without
abbrev pub places_of : KeptPlaces → List Place
places_of (Read texts) = places_joined texts
places_of (Recounted places) = places
places_of (Indexed all) = all.places

-- where there are indexes, they are what the places say; texts that are joined are cut where they end
abbrev pub HasTrueIndexes : KeptPlaces → Type 0
HasTrueIndexes (Read texts) = IsJoined texts
HasTrueIndexes (Recounted places) = Unit {0}
HasTrueIndexes (Indexed all) = IsIndexed all

-- what is kept of the places of a pool, from one call to the next
pub record IsKept (kept : KeptPlaces) : Type 0 where
  pub most : length (places_of kept) ≤ 16777215
  pub counts : CountsFit (places_of kept)
  pub indexed : HasTrueIndexes kept
