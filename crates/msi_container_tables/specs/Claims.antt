-- Which sectors, or which entries, are in use.
use Rattle.std.specs.Prelude.{◌≡◌, ◌≢◌, ℕ, ◌<◌, Bool, true, false, List, ◌++◌, length, slice_index, slice_index_or}
use Rattle.msi_container_format.specs.Chains.{AreBelow, AreDistinct}

-- a number below the limit that isn't in use
pub record IsFree (limit : ℕ) (used : List ℕ) (number : ℕ) : Type 0 where
  pub below : number < limit
  pub unused : (k : ℕ) → k < length used → slice_index used k ≢ number

-- all of a list can be taken into use beside what is
pub record CanClaim (limit : ℕ) (used c : List ℕ) : Type 0 where
  pub below : AreBelow limit c
  pub distinct : AreDistinct (used ++ c)

-- what is in use is marked
abbrev pub MarkedAre : List Bool → List ℕ → Type 0
MarkedAre marks used = (k : ℕ) → k < length used → slice_index_or marks (slice_index used k) false ≡ true

-- what isn't in use isn't marked
abbrev pub OthersAreUnmarked : List Bool → List ℕ → Type 0
OthersAreUnmarked marks used = (s : ℕ) → ((k : ℕ) → k < length used → slice_index used k ≢ s)
    → slice_index_or marks s false ≡ false
