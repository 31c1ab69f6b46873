-- A file's header and some of its sectors, copied into a smaller file, where the sectors stand in other places.
use Rattle.std.specs.Prelude.{◌≡◌, ℕ, ◌+◌, ◌*◌, ◌<◌, List, length, slice_index}
use Rattle.msi_container_format.specs.Container.{sector_size}

-- the copy has the fields of the file's header, which are its first 512 bytes
abbrev pub HasHeaderOf : (file copy : List ℕ) → Type 0
HasHeaderOf file copy = (i : ℕ) → i < 512 → slice_index copy i ≡ slice_index file i

-- these sectors of the file stand in those sectors of the copy
pub record AreCopied (file copy : List ℕ) (sectors places : List ℕ) : Type 0 where
  pub long : length places ≡ length sectors
  pub same : (i j : ℕ) → i < length sectors → j < sector_size file
      → slice_index copy ((slice_index places i + 1) * sector_size file + j)
      ≡ slice_index file ((slice_index sectors i + 1) * sector_size file + j)
