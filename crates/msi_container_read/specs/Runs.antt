-- Sectors that follow one another.
use Rattle.std.specs.Prelude.{◌≡◌, ℕ, ◌+◌, ◌<◌, List, length, slice_index}

-- these sectors are those from one on
abbrev pub IsRun : ℕ → List ℕ → Type 0
IsRun first sectors = (i : ℕ) → i < length sectors → slice_index sectors i ≡ first + i
