-- References to places of the pool in the cells of tables. A place's number, or 0 for none.
use Rattle.std.specs.Prelude.{◌≡◌, ℕ, ◌^◌, ◌<◌, Bool, List, length, Option, Some, None, IfSome, nat_lt, ◌==◌}
use Rattle.std.specs.Prelude.{if◌then◌else◌, unwrap_or}
use Rattle.std.specs.Io.KnownBytes.{Consumes}
pub use Rattle.msi_base.specs.Numbers.{low_bytes, number_of}

-- how many bytes a reference has
abbrev pub reference_width : Bool → ℕ
reference_width long = if long then 3 else 2

-- how a reference is written
abbrev pub reference_bytes : Bool → Option ℕ → List ℕ
reference_bytes long reference = low_bytes (reference_width long) (unwrap_or reference 0)

-- the reference that bytes spell
abbrev pub reference_in : List ℕ → Option ℕ
reference_in bytes = if number_of bytes == 0 then None else Some (number_of bytes)

-- the number fits that many bytes
abbrev pub fits_reference : Bool → Option ℕ → Bool
fits_reference long reference = nat_lt (unwrap_or reference 0) (256 ^ reference_width long)

-- a reader gave the bytes of the reference
abbrev pub ReadsReference : Bool → Option (List ℕ) → Option (List ℕ) → Option ℕ → Type 0
ReadsReference long old new reference =
    (bytes : List ℕ) × (length bytes ≡ reference_width long) × Consumes old new bytes
    × (reference ≡ reference_in bytes)

-- what is written of a reference that fits is read as it
abbrev pub ReferencesComeBack : Type 0
ReferencesComeBack = (long : Bool) (reference : Option ℕ) → IfSome reference (λ number. 0 < number)
    → IfSome reference (λ number. number < 256 ^ reference_width long)
    → (length (reference_bytes long reference) ≡ reference_width long)
    × (reference_in (reference_bytes long reference) ≡ reference)
