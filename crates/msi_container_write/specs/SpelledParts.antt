-- An image spells its parts, as the grammar reads them.
use Rattle.std.specs.Prelude.{◌≡◌, ℕ, ◌+◌, ◌-◌, ◌*◌, ◌<◌, ◌≤◌, ◌^◌, List, [], length, slice_index, slice_index_or, take}
use Rattle.std.specs.Prelude.{map, Some}
use Rattle.std.specs.List.{range_with_len}
use Rattle.msi_container_format.specs.Bytes.{number32, place}
use Rattle.msi_container_format.specs.Chains.{IsChain}
use Rattle.msi_container_format.specs.Container.{IsHeader, successor, listed, next_difat, sector_size, directory_start}
use Rattle.msi_container_format.specs.Container.{mini_fat_start, fat_count}
use Rattle.msi_container_format.specs.Format.{END_OF_CHAIN}
use Rattle.msi_container_write.specs.Extents.{units, all_units, start_of}
use Rattle.msi_container_write.specs.Image.{Run, image, fat_sectors, difat_sectors}

-- the sectors of the FAT behind the parts, and those of the DIFAT behind the FAT
abbrev pub fat_behind : List (List ℕ) → ℕ → List ℕ
fat_behind parts total = range_with_len (all_units 512 parts) (fat_sectors total)

abbrev pub difat_behind : List (List ℕ) → ℕ → List ℕ
difat_behind parts total = range_with_len (all_units 512 parts + fat_sectors total) (difat_sectors total)

-- a part stands in a chain of its own, to the end mark, whose bytes are the part's
pub record IsSpelledPart (bytes fat : List ℕ) (first count : ℕ) (part : List ℕ) : Type 0 where
  pub chain : IsChain (successor bytes fat) first count (range_with_len first count)
  pub ended : 0 < count → successor bytes fat (first + count - 1) ≡ Some END_OF_CHAIN
  pub content : (p : ℕ) → p < length part
      → slice_index bytes (place 512 (range_with_len first count) p) ≡ slice_index part p

-- An image of sectors that suffice has its header, names its tables, and spells the DIFAT, the FAT, and each part.
pub record IsSpelledImage (bytes : List ℕ) (parts : List (List ℕ)) (mini_fat : Run) (total : ℕ) : Type 0 where
  pub long : length bytes ≡ 512 * (total + 1)
  pub header : IsHeader bytes
  pub size : sector_size bytes ≡ 512
  pub directory : directory_start bytes ≡ 0
  pub mini_start : mini_fat_start bytes ≡ start_of mini_fat.first mini_fat.count
  pub fat_count : fat_count bytes ≡ fat_sectors total
  pub difat : IsChain (next_difat bytes) (number32 bytes 68) (difat_sectors total) (difat_behind parts total)
  pub fat : fat_behind parts total
      ≡ map (listed bytes (difat_behind parts total)) (range_with_len 0 (fat_sectors total))
  pub spelled : (i : ℕ) → i < length parts →
      IsSpelledPart bytes (fat_behind parts total) (all_units 512 (take i parts))
      (units 512 (slice_index_or parts i [])) (slice_index_or parts i [])

abbrev pub ImagesSpellParts : Type 0
ImagesSpellParts =
    (parts : List (List ℕ)) (mini_fat : Run) (total : ℕ)
    → all_units 512 parts + fat_sectors total + difat_sectors total ≤ total
    → total < 2 ^ 31
    → mini_fat.first < 2 ^ 32
    → IsSpelledImage (image parts mini_fat total) parts mini_fat total
