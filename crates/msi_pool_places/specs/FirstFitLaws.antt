-- What a number of the pool names, and what taking a text and giving a place back do.
use Rattle.std.specs.Prelude.{◌≡◌, ◌≢◌, ℕ, ◌+◌, ◌-◌, ◌<◌, ◌≤◌, Bool, List, [], length, max, Option, Some, option_map}
use Rattle.std.specs.Prelude.{slice_get}
use Rattle.std.specs.Option.{option_map_or}
use Rattle.msi_pool_places.specs.Pool.{Place, CountsFit}
use Rattle.msi_pool_places.specs.FirstFit.{count_of, most_places, taken, given_back}

-- the place of a number
abbrev pub place_at : List Place → ℕ → Option Place
place_at places number = slice_get places (number - 1)

-- its text; empty past the end
abbrev pub text_at : List Place → ℕ → List ℕ
text_at places number = option_map_or (λ p. p.text) (place_at places number) []

-- how many cells name it; 0 past the end
abbrev pub count_at : List Place → ℕ → ℕ
count_at places number = count_of (place_at places number)

-- there is a place of this number, and it holds the text
abbrev pub Holds : List Place → ℕ → List ℕ → Type 0
Holds places number text = option_map (λ p. p.text) (place_at places number) ≡ Some text

-- every place but that of the number is as it was
abbrev pub OthersStay : ℕ → List Place → List Place → Type 0
OthersStay number before after = (i : ℕ) → i + 1 ≢ number → slice_get after i ≡ slice_get before i

-- one cell more names the place, which has the text now and before was new, free, or had the text
pub record Takes (text : List ℕ) (number : ℕ) (before after : List Place) : Type 0 where
  pub from_one : 0 < number
  pub place : place_at after number ≡ Some (record { text = text; count = count_at before number + 1 })
  pub room : count_at before number < 65535
  pub kept : 0 < count_at before number → text_at before number ≡ text
  pub others : OthersStay number before after
  pub many : length after ≡ max (length before) number

-- one cell less names the place; its text goes with the last cell, and else stays
pub record GivesBack (number : ℕ) (before after : List Place) : Type 0 where
  pub count : count_at before number ≡ count_at after number + 1
  pub last : count_at after number ≡ 0 → text_at after number ≡ []
  pub kept : 0 < count_at after number → text_at after number ≡ text_at before number
  pub others : OthersStay number before after
  pub many : length after ≡ length before

-- a text that is taken stands at its number, and no other place changes
abbrev pub TakenPlacesHoldTheirText : Type 0
TakenPlacesHoldTheirText = (long : Bool) (before after : List Place) (text : List ℕ) (number : ℕ)
    → taken long before text ≡ Some (number, after) → Takes text number before after

-- giving a place back takes one cell from it, and no other place changes
abbrev pub GivenBackTakesOne : Type 0
GivenBackTakesOne = (before after : List Place) (number : ℕ) → 0 < number
    → given_back before number ≡ Some after → GivesBack number before after

-- a text takes a place that there is, or one that the width can name; and counts keep to 16 bits
abbrev pub TakenPlacesStayInRange : Type 0
TakenPlacesStayInRange = (long : Bool) (before after : List Place) (text : List ℕ) (number : ℕ)
    → taken long before text ≡ Some (number, after)
    → (number ≤ max (length before) (most_places long)) × (CountsFit before → CountsFit after)

-- giving a place back keeps counts to 16 bits
abbrev pub GivenBackStaysInRange : Type 0
GivenBackStaysInRange = (before after : List Place) (number : ℕ)
    → given_back before number ≡ Some after → CountsFit before → CountsFit after
