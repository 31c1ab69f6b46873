-- Parts laid in order, each filled up with zeros to whole units of a size.
use Rattle.std.specs.Prelude.{ℕ, ◌+◌, ◌-◌, ◌*◌, ◌/◌, ◌%◌, Bool, true, if◌then◌else◌, ◌==◌, nat_lt, List, [], ◌∷◌}
use Rattle.std.specs.Prelude.{length, map, slice_index}
use Rattle.std.specs.List.{range_with_len}
use Rattle.std.specs.Int.{div_ceil, to_le_bytes, w32}
use Rattle.msi_container_format.specs.Format.{END_OF_CHAIN}

abbrev pub units : ℕ → List ℕ → ℕ
units size part = div_ceil (length part) size

-- how many units they take together; of those before a part, the number of its first unit
abbrev pub all_units : ℕ → List (List ℕ) → ℕ
all_units size [] = 0
all_units size (part ∷ parts) = units size part + all_units size parts

-- byte p of what is laid
abbrev pub laid_byte : ℕ → List (List ℕ) → ℕ → ℕ
laid_byte size [] p = 0
laid_byte size (part ∷ parts) p =
    if nat_lt p (units size part * size) then slice_index part p else laid_byte size parts (p - units size part * size)

-- all of it
abbrev pub laid_bytes : ℕ → List (List ℕ) → List ℕ
laid_bytes size parts = map (laid_byte size parts) (range_with_len 0 (size * all_units size parts))

-- whether unit n is the last of its part
abbrev pub is_last : ℕ → List (List ℕ) → ℕ → Bool
is_last size [] n = true
is_last size (part ∷ parts) n =
    if nat_lt n (units size part) then n + 1 == units size part else is_last size parts (n - units size part)

-- the entry of unit n in the table of these parts
abbrev pub link : ℕ → List (List ℕ) → ℕ → ℕ
link size parts n = if is_last size parts n then END_OF_CHAIN else n + 1

-- the entry of unit k of a part, which has count units, numbered from first on
abbrev pub chain_entry : ℕ → ℕ → ℕ → ℕ
chain_entry first count k = if nat_lt (k + 1) count then first + k + 1 else END_OF_CHAIN

-- where a chain of count units starts, the first of which is given
abbrev pub start_of : ℕ → ℕ → ℕ
start_of first count = if count == 0 then END_OF_CHAIN else first

-- byte b of a 32-bit number, the lowest first
abbrev pub number_byte : ℕ → ℕ → ℕ
number_byte n b = slice_index (to_le_bytes w32 n) b

-- byte p of a table whose entries are such numbers
abbrev pub table_byte : (ℕ → ℕ) → ℕ → ℕ
table_byte entry p = number_byte (entry (p / 4)) (p % 4)
