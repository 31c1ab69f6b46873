-- Where each stream of a file lies: an index of its streams, and what stands from a unit on.
use Rattle.std.specs.Prelude.{◌≡◌, ℕ, ◌+◌, ◌-◌, ◌*◌, if◌then◌else◌, nat_lt, List, [], ◌∷◌, map, drop}
use Rattle.msi_container_write.specs.Extents.{units}
use Rattle.msi_container_write.specs.Layout.{mini_part, large_part}

-- a stream as its name and its bytes, with how many sectors and mini sectors those before it take
pub record Placed : Type 0 where
  pub stream : List ℕ × List ℕ
  pub first : ℕ
  pub first_mini : ℕ

-- streams in order, where so many sectors and mini sectors are taken before them
abbrev pub placed : ℕ → ℕ → List (List ℕ × List ℕ) → List Placed
placed first first_mini [] = []
placed first first_mini (stream ∷ streams) =
    record { stream = stream; first = first; first_mini = first_mini }
    ∷ placed (first + units 512 (large_part stream)) (first_mini + units 64 (mini_part stream)) streams

abbrev pub streams_of : List Placed → List (List ℕ × List ℕ)
streams_of places = map (λ place. place.stream) places

abbrev pub IsIndex : List Placed → Type 0
IsIndex places = places ≡ placed 0 0 (streams_of places)

-- of parts laid in order, what stands from unit n on to the end of the part that has it: nothing past the last part
abbrev pub rest_from : ℕ → List (List ℕ) → ℕ → List ℕ
rest_from size [] n = []
rest_from size (part ∷ parts) n =
    if nat_lt n (units size part) then drop (size * n) part else rest_from size parts (n - units size part)
