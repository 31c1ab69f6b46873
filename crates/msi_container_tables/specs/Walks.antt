-- Following a chain.
use Rattle.std.specs.Prelude.{ℕ, ◌-◌, List, [], ◌∷◌, length, slice_index, Option, Some}

-- the member after these
abbrev pub follower : (ℕ → Option ℕ) → ℕ → List ℕ → Option ℕ
follower next start [] = Some start
follower next start (x ∷ xs) = next (slice_index (x ∷ xs) (length (x ∷ xs) - 1))
