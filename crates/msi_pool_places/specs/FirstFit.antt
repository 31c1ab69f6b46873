-- Which place a text takes, and what giving a place back leaves.
use Rattle.std.specs.Prelude.{ℕ, ◌+◌, ◌-◌, Bool, false, List, [], ◌∷◌, ◌++◌, length, Option, Some, None, nat_lt, ◌==◌}
use Rattle.std.specs.Prelude.{◌&&◌, ◌||◌, if◌then◌else◌, bytes_eq, set, slice_get, option_and_then, position, unwrap_or}
use Rattle.msi_pool_places.specs.Pool.{Place}

-- a free place, or one with this text whose count can rise
abbrev pub is_fit : List ℕ → Place → Bool
is_fit text p = (p.count == 0) || (bytes_eq p.text text && nat_lt p.count 65535)

-- the least such place, or one past the end; counted from 0
abbrev pub first_fit : List ℕ → List Place → ℕ
first_fit text places = unwrap_or (position (is_fit text) places) (length places)

-- up to how many places one is added
abbrev pub most_places : Bool → ℕ
most_places long = if long then 16777215 else 65535

-- whether references have three bytes once the places are these: where they had, or where two don't suffice
abbrev pub is_long_with : Bool → List Place → Bool
is_long_with long places = long || nat_lt (most_places false) (length places)

abbrev pub count_of : Option Place → ℕ
count_of None = 0
count_of (Some p) = p.count

-- the places after the text was put at i, which may be one past the end
abbrev pub with_text_at : List Place → ℕ → List ℕ → List Place
with_text_at places i text = if nat_lt i (length places)
    then set places i (record { text = text; count = count_of (slice_get places i) + 1 })
    else places ++ record { text = text; count = 1 } ∷ []

-- a place with one cell less; its text goes with the last
abbrev pub lowered : Place → Place
lowered p = record { text = if p.count == 1 then [] else p.text; count = p.count - 1 }

-- taking a text: the number of its place and the places after it, or nothing where the pool is full
abbrev pub taken : Bool → List Place → List ℕ → Option (ℕ × List Place)
taken long places text = let i = first_fit text places in
    if nat_lt i (length places) || nat_lt i (most_places long) then Some (i + 1, with_text_at places i text) else None

-- giving back the place of a number: nothing where it is free or past the end
abbrev pub given_back : List Place → ℕ → Option (List Place)
given_back places number = option_and_then
    (λ p. if p.count == 0 then None else Some (set places (number - 1) (lowered p)))
    (slice_get places (number - 1))
