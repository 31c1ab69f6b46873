-- What is read of a source that may be read from any place on, and how many bytes that takes.
use Rattle.std.specs.Prelude.{◌≡◌, ℕ, Bool, true, List, ◌++◌, length, Option, Some, Result, Ok, Err, ◌⊎◌}
use Rattle.msi_base.specs.declared.errors.ErrorKind.{ErrorKind}
use Rattle.msi_base.specs.declared.errors.ErrorKind.TheVariants.{InvalidData, Io, OutOfMemory}
use Rattle.msi_container_device.specs.Held.{Held, bytes_told}
use Rattle.msi_container_format.specs.Bytes.{bytes_at}

-- what a source holds, and how many bytes were read of it
pub record Reading : Type 0 where
  pub held : Option Held
  pub bytes_read : ℕ

-- the source tells that it holds these bytes
abbrev pub Tells : Option Held → List ℕ → Type 0
Tells held file = bytes_told held ≡ Some file

-- so many bytes of a source from a place on, with zeros past its end, are put behind those that were there
pub record IsAppended (held : Option Held) (place count : ℕ) (old new : List ℕ) : Type 0 where
  pub piece : List ℕ
  pub behind : new ≡ old ++ piece
  pub long : length piece ≡ count
  pub told : (file : List ℕ) → Tells held file → piece ≡ bytes_at file place count

-- why nothing is read: a call of a source failed that can fail at all, or memory was refused
abbrev pub IsReadRefusal : Bool → ErrorKind → Type 0
IsReadRefusal can_fail kind = ((kind ≡ Io) × (can_fail ≡ true)) ⊎ (kind ≡ OutOfMemory)

-- What a look at a source answers: something that is found in the bytes that it tells, or a refusal: for bytes in which
-- nothing of that kind is, or since a call of a source failed that can fail, or memory was refused
abbrev pub Answers : {X : Type 0} → Bool → Option Held → (List ℕ → X → Type 0) → (List ℕ → Type 0)
    → Result X ErrorKind → Type 0
Answers can_fail held Found Broken (Ok x) = (file : List ℕ) → Tells held file → Found file x
Answers can_fail held Found Broken (Err InvalidData) = (file : List ℕ) → Tells held file → Broken file
Answers can_fail held Found Broken (Err kind) = IsReadRefusal can_fail kind
