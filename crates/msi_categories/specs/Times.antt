-- Moments: counts of 100 ns since 1601 (MS-DTYP 2.3.3, FILETIME).
use Rattle.std.specs.Prelude.{◌≡◌, ℕ, ◌*◌, ◌<◌, ◌^◌, ℤ, pos, ◌+ℤ◌, ◌-ℤ◌, ◌*ℤ◌, int_div, nat_abs, List, length, Option}
use Rattle.std.specs.Int.{w64, saturate_unsigned, int_div_euclid, int_rem_euclid, to_le_bytes, from_le_bytes}
use Rattle.std.specs.Io.KnownBytes.{Consumes}

-- the Unix epoch
abbrev pub epoch : ℕ
epoch = 116444736000000000

-- of seconds and nanoseconds since the Unix epoch: cut towards it, and no moment before 1601 or past 64 bits
abbrev pub ticks_of_unix : ℤ → ℕ → ℕ
ticks_of_unix secs nanos = saturate_unsigned w64 (pos epoch +ℤ int_div (secs *ℤ pos 1000000000 +ℤ pos nanos) (pos 100))

-- the seconds, rounded down, and the nanoseconds above them
abbrev pub unix_of_ticks : ℕ → ℤ × ℕ
unix_of_ticks ticks = let after = pos ticks -ℤ pos epoch in
    (int_div_euclid after (pos 10000000), nat_abs (int_rem_euclid after (pos 10000000)) * 100)

-- a moment is stored in eight bytes, the lowest first
abbrev pub stored_moment : ℕ → List ℕ
stored_moment ticks = to_le_bytes w64 ticks

-- a reader gave the bytes of the moment
abbrev pub ReadsMoment : Option (List ℕ) → Option (List ℕ) → ℕ → Type 0
ReadsMoment old new ticks = (bytes : List ℕ) × (length bytes ≡ 8) × Consumes old new bytes
    × (ticks ≡ from_le_bytes w64 bytes)

-- a moment comes back from its seconds and nanoseconds
abbrev pub MomentsComeBackFromUnix : Type 0
MomentsComeBackFromUnix = (ticks : ℕ) → ticks < 2 ^ 64
    → ticks_of_unix (unix_of_ticks ticks).0 (unix_of_ticks ticks).1 ≡ ticks

-- a moment that is stored has eight bytes, which are read as it
abbrev pub StoredMomentsComeBack : Type 0
StoredMomentsComeBack = (ticks : ℕ) → ticks < 2 ^ 64
    → (length (stored_moment ticks) ≡ 8) × (from_le_bytes w64 (stored_moment ticks) ≡ ticks)
