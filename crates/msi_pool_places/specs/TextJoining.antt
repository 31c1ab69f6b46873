-- Entries as they are kept until their texts are read, and texts that are joined one after the other.
use Rattle.std.specs.Prelude.{◌≡◌, ◌<◌, ◌^◌, ℕ, List, [], ◌∷◌, false, take, drop}
use Rattle.msi_pool_places.specs.Pool.{Entry, Place}
use Rattle.msi_pool_places.specs.JoinedTexts.{IsAllCut, places_cut}
use Rattle.msi_pool_places.specs.declared.count.Count.{Count}
use Rattle.msi_pool_places.specs.declared.joiner.TextJoiner.{TextJoiner}

-- the entries of these lengths and counts
abbrev pub entries_with : List ℕ → List Count → List Entry
entries_with lens [] = []
entries_with [] (count ∷ counts) = []
entries_with (len ∷ lens) (count ∷ counts) = record { len = len; count = count.cells } ∷ entries_with lens counts

-- each length has 32 bits, each count 16, and no text is lost
abbrev pub AreUnread : List ℕ → List Count → Type 0
AreUnread [] [] = Unit {0}
AreUnread [] (count ∷ counts) = ⊥
AreUnread (len ∷ lens) [] = ⊥
AreUnread (len ∷ lens) (count ∷ counts) =
    (len < 2 ^ 32) × (count.is_forgotten ≡ false) × (count.cells < 2 ^ 16) × AreUnread lens counts

-- the first texts are joined, and of the others the entries are there
pub record IsJoining (joiner : TextJoiner) : Type 0 where
  pub front : IsAllCut joiner.whole (take joiner.read joiner.ends) (take joiner.read joiner.counts.items)
  pub left : AreUnread (drop joiner.read joiner.ends) (drop joiner.read joiner.counts.items)

-- the places whose texts are read
abbrev pub places_read : TextJoiner → List Place
places_read joiner =
    places_cut joiner.whole 0 (take joiner.read joiner.ends) (take joiner.read joiner.counts.items)

-- the entries of the texts that aren't
abbrev pub entries_left : TextJoiner → List Entry
entries_left joiner = entries_with (drop joiner.read joiner.ends) (drop joiner.read joiner.counts.items)
