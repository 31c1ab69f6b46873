-- Names of a container's entries: rows of UTF-16 units.
use Rattle.std.specs.Prelude.{◌≡◌, ℕ, ◌-◌, nat_lt, nat_le, ◌&&◌, not, Bool, if◌then◌else◌, List, length, map, chars}
use Rattle.std.specs.Prelude.{Option, Some, None, IsUtf8}
use Rattle.std.specs.List.{flat_map}
use Rattle.std.specs.Ordering.{nat_cmp, on, then_cmp}
use Rattle.std.specs.Cmp.Lexicographic.{slice_cmp}
use Rattle.std.specs.declared.cmp.Ordering.{Ordering}
use Rattle.std.specs.Char.Escape.{encode_utf16}
use Rattle.std.specs.Char.Utf16.{has_unpaired_surrogate}

-- an ASCII small letter as its capital, and each other unit as it is
abbrev pub capital : ℕ → ℕ
capital unit = if nat_le 97 unit && nat_le unit 122 then unit - 32 else unit

abbrev pub capitals : List ℕ → List ℕ
capitals units = map capital units

-- the container's order: fewer units first, then by the units with small letters as capitals, then by the units
abbrev pub name_cmp : List ℕ → List ℕ → Ordering
name_cmp = then_cmp (on (λ (units : List ℕ). length units) nat_cmp)
    (then_cmp (on capitals (slice_cmp nat_cmp)) (slice_cmp nat_cmp))

-- well-formed UTF-16: each surrogate has its partner
abbrev pub is_text : List ℕ → Bool
is_text units = not (has_unpaired_surrogate units)

-- the units that spell characters, and those that spell a text
abbrev pub utf16_units : List ℕ → List ℕ
utf16_units characters = flat_map encode_utf16 characters

abbrev pub units_of : List ℕ → List ℕ
units_of text = utf16_units (chars text)

-- these units spell a text, and no other
abbrev pub SpellOneText : List ℕ → Type 0
SpellOneText units = (text : List ℕ) × IsUtf8 text × (units_of text ≡ units)
    × ((other : List ℕ) → IsUtf8 other → units_of other ≡ units → other ≡ text)

-- how many units a name may have
abbrev pub is_name_length : ℕ → Bool
is_name_length n = nat_lt 0 n && nat_le n 31

-- a name of these units, where they are as many as a name may have
abbrev pub named : List ℕ → Option (List ℕ)
named units = if is_name_length (length units) then Some units else None
