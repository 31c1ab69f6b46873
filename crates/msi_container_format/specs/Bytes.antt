-- Numbers in bytes, and where a part of a file stands.
use Rattle.std.specs.Prelude.{ℕ, ◌+◌, ◌*◌, ◌/◌, ◌%◌, List, slice_index, map}
use Rattle.std.specs.List.{range_with_len}

-- A little-endian number at a position. Past their end bytes read as zeros.
abbrev pub number16 : List ℕ → ℕ → ℕ
number16 bytes p = slice_index bytes p + 256 * slice_index bytes (p + 1)

abbrev pub number32 : List ℕ → ℕ → ℕ
number32 bytes p = number16 bytes p + 65536 * number16 bytes (p + 2)

abbrev pub number64 : List ℕ → ℕ → ℕ
number64 bytes p = number32 bytes p + 4294967296 * number32 bytes (p + 4)

-- count bytes from a position
abbrev pub bytes_at : List ℕ → ℕ → ℕ → List ℕ
bytes_at bytes p count = map (λ i. slice_index bytes (p + i)) (range_with_len 0 count)

-- Where byte p of a part stands: the part's sectors are numbered by its members in order, and sector n of the file
-- starts at (n + 1) * size.
abbrev pub place : ℕ → List ℕ → ℕ → ℕ
place size members p = (slice_index members (p / size) + 1) * size + p % size
