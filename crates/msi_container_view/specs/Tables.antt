-- The tables of a container, copied behind its header, sector by sector.
use Rattle.std.specs.Prelude.{◌≡◌, ℕ, ◌+◌, ◌*◌, ◌<◌, ◌≤◌, List, length, slice_index, Option}
use Rattle.msi_container_device.specs.Held.{Held, bytes_told}
use Rattle.msi_container_format.specs.Container.{sector_size}
use Rattle.msi_container_view.specs.Copied.{HasHeaderOf, AreCopied}
use Rattle.msi_container_view.specs.Reading.{Tells}

-- what a source holds, how many bytes were read of it, and the copy of its header and of
-- some of its sectors
pub record TablesRead : Type 0 where
  pub held : Option Held
  pub bytes_read : ℕ
  pub copy : List ℕ

-- the copy is whole sectors, the first of which has the header, and no more bytes were read than it has
pub record IsCopy (t : TablesRead) : Type 0 where
  pub sectors : ℕ
  pub long : length t.copy ≡ (1 + sectors) * sector_size t.copy
  pub read : t.bytes_read ≤ length t.copy
  pub headed : (file : List ℕ) → Tells t.held file → HasHeaderOf file t.copy

-- so many sectors more were read, and put behind the copy
pub record ReadsOn (old new : TablesRead) (sectors : ℕ) : Type 0 where
  pub told : bytes_told new.held ≡ bytes_told old.held
  pub long : length new.copy ≡ length old.copy + sectors * sector_size old.copy
  pub front : (k : ℕ) → k < length old.copy → slice_index new.copy k ≡ slice_index old.copy k
  pub read : new.bytes_read ≤ old.bytes_read + sectors * sector_size old.copy

-- sectors of the source stand in these sectors of the copy
pub record StandAt (held : Option Held) (copy sectors places : List ℕ) : Type 0 where
  pub long : length places ≡ length sectors
  pub inside : (i : ℕ) → i < length places → (slice_index places i + 2) * sector_size copy ≤ length copy
  pub told : (file : List ℕ) → Tells held file → AreCopied file copy sectors places
