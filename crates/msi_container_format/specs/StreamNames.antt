-- How the names of streams are packed, two characters to a unit of UTF-16.
use Rattle.std.specs.Prelude.{ℕ, ◌+◌, ◌-◌, ◌*◌, ◌/◌, ◌%◌, Bool, not, List, [], ◌∷◌, ◌++◌, map, length, drop, filter}
use Rattle.std.specs.Prelude.{filter_map, Option, Some, None, is_none, nat_lt, nat_le, ◌==◌, ◌&&◌, ◌||◌, if◌then◌else◌}
use Rattle.std.specs.Prelude.{slice_index}
use Rattle.std.specs.List.{flat_map, slice_split, list_any}
use Rattle.std.specs.Int.{is_in_range}
use Rattle.msi_container_format.specs.Names.{utf16_units}

-- Digits, capitals, small letters, `.` and `_` have the values 0 to 63.
abbrev pub value_of : ℕ → Option ℕ
value_of c = if is_in_range 48 57 c then Some (c - 48)
    else if is_in_range 65 90 c then Some (c - 55)
    else if is_in_range 97 122 c then Some (c - 61)
    else if c == 46 then Some 62
    else if c == 95 then Some 63
    else None

abbrev pub character_with : ℕ → ℕ
character_with v = if nat_lt v 10 then v + 48 else if nat_lt v 36 then v + 55
    else if nat_lt v 62 then v + 61 else if v == 62 then 46 else 95

abbrev pub lacks_value : ℕ → Bool
lacks_value c = is_none (value_of c)

-- one character for two values, and one for a value alone
abbrev pub packed_pair : ℕ → ℕ → ℕ
packed_pair v w = 0x3800 + 64 * w + v

abbrev pub packed_single : ℕ → ℕ
packed_single v = 0x4800 + v

-- a run of values: pairs from the left, and an odd one last
abbrev pub packed_run : List ℕ → List ℕ
packed_run [] = []
packed_run (v ∷ []) = packed_single v ∷ []
packed_run (v ∷ w ∷ vs) = packed_pair v w ∷ packed_run vs

-- runs with the characters that stood between them
abbrev pub joined_around : List (List ℕ) → List ℕ → List ℕ
joined_around [] between = between
joined_around (run ∷ runs) [] = run ++ joined_around runs []
joined_around (run ∷ runs) (c ∷ cs) = run ++ c ∷ joined_around runs cs

-- The longest runs of characters with values are packed, and all else stands alone.
abbrev pub packed : List ℕ → List ℕ
packed cs = joined_around (map (λ run. packed_run (filter_map value_of run)) (slice_split lacks_value cs))
    (filter lacks_value cs)

-- U+4840 marks the stream of a table
abbrev pub table_mark : ℕ
table_mark = 0x4840

abbrev pub encoded_name : Bool → List ℕ → List ℕ
encoded_name is_table cs = (if is_table then table_mark ∷ [] else []) ++ packed cs

-- what a character of an encoded name stands for
abbrev pub unpacked : ℕ → List ℕ
unpacked c = if is_in_range 0x3800 0x47FF c then character_with ((c - 0x3800) % 64)
    ∷ character_with ((c - 0x3800) / 64) ∷ []
    else if is_in_range 0x4800 0x483F c then character_with (c - 0x4800) ∷ []
    else c ∷ []

abbrev pub is_marked : List ℕ → Bool
is_marked cs = slice_index cs 0 == table_mark

-- the characters of a name, and whether it is the name of a table's stream
abbrev pub decoded_name : List ℕ → List ℕ × Bool
decoded_name cs = (flat_map unpacked (if is_marked cs then drop 1 cs else cs), is_marked cs)

-- `/`, `\`, `:`, `!`, U+0000 and the characters that stand for others
abbrev pub is_forbidden : ℕ → Bool
is_forbidden c = (c == 47) || (c == 92) || (c == 58) || (c == 33) || (c == 0) || is_in_range 0x3800 0x483F c

-- how many units the container's name of a stream has
abbrev pub encoded_units : Bool → List ℕ → ℕ
encoded_units is_table cs = length (utf16_units (encoded_name is_table cs))

abbrev pub is_valid_name : Bool → List ℕ → Bool
is_valid_name is_table cs = nat_lt 0 (length cs) && not (list_any is_forbidden cs) && not (is_marked cs)
    && nat_le (encoded_units is_table cs) 31
