-- How often reading a compound file looks up a successor, in the FAT or in the mini FAT, and how many bytes it keeps.
use Rattle.std.specs.Prelude.{ℕ, ◌+◌, ◌*◌, ◌≤◌, List, ◌++◌, length, sum_by, ◌⊎◌}
use Rattle.std.specs.Int.{div_ceil}
use Rattle.std.specs.FinMap.{entries}
use Rattle.msi_container_format.specs.declared.contents.Contents.{Contents}
use Rattle.msi_container_format.specs.Container.{Plan, sector_size, fat_of}
use Rattle.msi_container_tables.specs.Counts.{sectors_inside, links}
use Rattle.msi_container_tables.specs.Reading.{IsStart, IsMini, mini_limit}

-- a mini stream that header, FAT and directory lead to, by sectors that start inside the file, none of them used twice
abbrev pub HasMiniStream : (bytes mini_stream : List ℕ) → Type 0
HasMiniStream bytes mini_stream =
    (difat : List ℕ) × (directory : List ℕ) × (mini_fat : List ℕ)
    × IsStart bytes (sectors_inside bytes) difat (fat_of bytes difat) directory
    × IsMini bytes (sectors_inside bytes) (difat ++ fat_of bytes difat ++ directory)
    (fat_of bytes difat) directory mini_fat mini_stream

-- no more look-ups than sectors that start inside the file and, where there is a mini stream, mini sectors in its
-- sectors
abbrev pub IsWithinSectors : List ℕ → ℕ → Type 0
IsWithinSectors bytes n =
    (n ≤ sectors_inside bytes)
    ⊎ ((mini_stream : List ℕ) × HasMiniStream bytes mini_stream
    × (n ≤ sectors_inside bytes + mini_limit bytes mini_stream))

-- how many look-ups a file takes that holds something: directory and mini FAT run to their end marks
abbrev pub steps_of : Plan → ℕ
steps_of plan = length plan.directory + length plan.mini_fat + links plan.mini_stream + sum_by links plan.chains

-- how many bytes all streams have
abbrev pub bytes_kept : Contents → ℕ
bytes_kept contents = sum_by (λ e. length e.1) (entries contents.streams)

-- a file's length, rounded up to a whole sector
abbrev pub rounded_length : List ℕ → ℕ
rounded_length bytes = div_ceil (length bytes) (sector_size bytes) * sector_size bytes
