-- Chains of sectors in an allocation table.
use Rattle.std.specs.Prelude.{◌≡◌, ◌≢◌, ℕ, ◌+◌, ◌<◌, List, length, slice_index, Option, Some}

-- no number stands twice
abbrev pub AreDistinct : List ℕ → Type 0
AreDistinct xs = (i j : ℕ) → i < j → j < length xs → slice_index xs i ≢ slice_index xs j

-- each number is below n
abbrev pub AreBelow : ℕ → List ℕ → Type 0
AreBelow n xs = (i : ℕ) → i < length xs → slice_index xs i < n

-- a chain of count members from start: each member's successor is the next member
pub record IsChain (next : ℕ → Option ℕ) (start count : ℕ) (c : List ℕ) : Type 0 where
  pub long : length c ≡ count
  pub first : 0 < length c → slice_index c 0 ≡ start
  pub linked : (i : ℕ) → i + 1 < length c → next (slice_index c i) ≡ Some (slice_index c (i + 1))
