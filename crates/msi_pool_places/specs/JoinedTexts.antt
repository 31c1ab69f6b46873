-- The texts of places one behind the other, and the places that they are cut into.
use Rattle.std.specs.Prelude.{◌≡◌, ◌≤◌, ℕ, ◌-◌, List, [], ◌∷◌, Some, length, take, drop}
use Rattle.std.specs.Prelude.{if◌then◌else◌, slice_get}
use Rattle.std.specs.Str.{IsCharBoundary}
use Rattle.msi_pool_places.specs.Pool.{CountsFit, Place}
use Rattle.msi_pool_places.specs.declared.count.Count.{Count}
use Rattle.msi_pool_places.specs.declared.joined.JoinedTexts.{JoinedTexts}

-- the place whose text begins and ends at a byte; a forgotten text is empty
abbrev pub place_cut : List ℕ → ℕ → ℕ → Count → Place
place_cut whole start end count = record {
  text = if count.is_forgotten then [] else take (end - start) (drop start whole);
  count = count.cells;
}

-- the places whose texts stand one behind the other, from a byte on; a count past the last end has no text
abbrev pub places_cut : List ℕ → ℕ → List ℕ → List Count → List Place
places_cut whole start ends [] = []
places_cut whole start [] (count ∷ counts) = place_cut whole start start count ∷ places_cut whole start [] counts
places_cut whole start (end ∷ ends) (count ∷ counts) =
    place_cut whole start end count ∷ places_cut whole end ends counts

-- a text begins and ends between two characters
pub record IsCut (whole : List ℕ) (start end : ℕ) : Type 0 where
  pub begins : IsCharBoundary whole start
  pub ends : IsCharBoundary whole end
  pub order : start ≤ end

-- each text begins where that before it ends
abbrev pub AreCuts : List ℕ → ℕ → List ℕ → Type 0
AreCuts whole start [] = Unit {0}
AreCuts whole start (end ∷ ends) = IsCut whole start end × AreCuts whole end ends

-- where the last text ends
abbrev pub end_of : ℕ → List ℕ → ℕ
end_of start [] = start
end_of start (end ∷ ends) = end_of end ends

-- all of a text is cut, each piece has a count, and counts have 16 bits
pub record IsAllCut (whole ends : List ℕ) (counts : List Count) : Type 0 where
  pub are : AreCuts whole 0 ends
  pub all : end_of 0 ends ≡ length whole
  pub many : length ends ≡ length counts
  pub fit : CountsFit (places_cut whole 0 ends counts)

abbrev pub IsJoined : JoinedTexts → Type 0
IsJoined texts = IsAllCut texts.whole texts.ends texts.counts.items

abbrev pub places_joined : JoinedTexts → List Place
places_joined texts = places_cut texts.whole 0 texts.ends texts.counts.items

-- a place has the text from a byte on and before another, and the count
pub record IsPlaceAt (texts : JoinedTexts) (at start end count : ℕ) : Type 0 where
  pub cut : IsCut texts.whole start end
  pub place : slice_get (places_joined texts) at
      ≡ Some (record { text = take (end - start) (drop start texts.whole); count = count })
