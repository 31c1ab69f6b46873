-- The file that is written for some contents: the directory, the mini FAT, the mini stream, and the large streams in
-- the order of their names.
use Rattle.std.specs.Prelude.{ℕ, ◌+◌, ◌-◌, ◌*◌, ◌^◌, Bool, ◌||◌, if◌then◌else◌, ◌==◌, nat_lt, List, [], ◌∷◌, ◌++◌}
use Rattle.std.specs.Prelude.{length, map, replicate, codes}
use Rattle.std.specs.List.{range_with_len, flat_map, concat}
use Rattle.std.specs.Int.{div_ceil, to_le_bytes, w16, w32, w64}
use Rattle.std.specs.FinMap.{entries}
use Rattle.msi_container_format.specs.declared.contents.Contents.{Contents}
use Rattle.msi_container_format.specs.Bytes.{bytes_at}
use Rattle.msi_container_format.specs.Container.{is_mini}
use Rattle.msi_container_format.specs.Format.{END_OF_CHAIN, NO_ENTRY, FREE_SECTOR}
use Rattle.msi_container_write.specs.Balance.{middle, left_link, right_link}
use Rattle.msi_container_write.specs.Extents.{units, all_units, laid_bytes, link, start_of, table_byte}
use Rattle.msi_container_write.specs.Image.{Run, image, least_total}

-- DIRECTORY

-- an entry that is in use, with the units of its name
pub record Entry : Type 0 where
  pub name : List ℕ
  pub kind : ℕ
  pub left : ℕ
  pub right : ℕ
  pub child : ℕ
  pub clsid : List ℕ
  pub start : ℕ
  pub size : ℕ

-- a name in UTF-16, filled up with zeros to 64 bytes
abbrev pub name_field : List ℕ → List ℕ
name_field name = bytes_at (flat_map (to_le_bytes w16) name) 0 64

-- the name, its size with the closing null, the type, the colour (black), the links, the CLSID, state bits and two
-- times (zeros), the first sector, and the size
abbrev pub entry_bytes : Entry → List ℕ
entry_bytes e =
    name_field e.name
    ++ to_le_bytes w16 (2 * (length e.name + 1))
    ++ e.kind ∷ 1 ∷ []
    ++ flat_map (to_le_bytes w32) (e.left ∷ e.right ∷ e.child ∷ [])
    ++ e.clsid
    ++ replicate 20 0
    ++ to_le_bytes w32 e.start
    ++ to_le_bytes w64 e.size

-- an entry that isn't in use has no links, and is zero elsewhere
abbrev pub unused_entry : List ℕ
unused_entry = replicate 68 0 ++ replicate 12 0xFF ++ replicate 48 0

-- SMALL STREAMS, which lie in mini sectors of 64 bytes, and large ones

-- the bytes that a stream, given as its name and its bytes, has in mini sectors, and those that it has in sectors
abbrev pub mini_part : List ℕ × List ℕ → List ℕ
mini_part stream = if is_mini (length stream.1) then stream.1 else []

abbrev pub large_part : List ℕ × List ℕ → List ℕ
large_part stream = if is_mini (length stream.1) then [] else stream.1

abbrev pub mini_parts : List (List ℕ × List ℕ) → List (List ℕ)
mini_parts streams = map mini_part streams

abbrev pub large_parts : List (List ℕ × List ℕ) → List (List ℕ)
large_parts streams = map large_part streams

-- how many mini sectors these streams take
abbrev pub mini_sectors : List (List ℕ × List ℕ) → ℕ
mini_sectors streams = all_units 64 (mini_parts streams)

abbrev pub mini_fat_sectors : List (List ℕ × List ℕ) → ℕ
mini_fat_sectors streams = div_ceil (mini_sectors streams) 128

-- the mini FAT of what lies in mini sectors: its chains, and free entries up to a whole sector of 128
abbrev pub mini_fat_entry : List (List ℕ) → ℕ → ℕ
mini_fat_entry parts n = if nat_lt n (all_units 64 parts) then link 64 parts n else FREE_SECTOR

abbrev pub mini_fat_of : List (List ℕ) → List ℕ
mini_fat_of parts = map (table_byte (mini_fat_entry parts)) (range_with_len 0 (512 * div_ceil (all_units 64 parts) 128))

abbrev pub mini_fat : List (List ℕ × List ℕ) → List ℕ
mini_fat streams = mini_fat_of (mini_parts streams)

-- the mini stream: the small streams one behind another
abbrev pub mini_stream : List (List ℕ × List ℕ) → List ℕ
mini_stream streams = laid_bytes 64 (mini_parts streams)

-- eight mini sectors to a sector
abbrev pub mini_stream_sectors : List (List ℕ × List ℕ) → ℕ
mini_stream_sectors streams = div_ceil (mini_sectors streams) 8

-- THE DIRECTORY OF STREAMS

-- how many sectors the root and n streams take, four entries each
abbrev pub directory_sectors : ℕ → ℕ
directory_sectors n = div_ceil (n + 1) 4

-- the mini FAT stands behind the directory, the mini stream behind the mini FAT, and the large streams behind that
abbrev pub mini_fat_run : List (List ℕ × List ℕ) → Run
mini_fat_run streams = record { first = directory_sectors (length streams); count = mini_fat_sectors streams }

abbrev pub mini_stream_first : List (List ℕ × List ℕ) → ℕ
mini_stream_first streams = directory_sectors (length streams) + mini_fat_sectors streams

abbrev pub large_first : List (List ℕ × List ℕ) → ℕ
large_first streams = mini_stream_first streams + mini_stream_sectors streams

-- the root, above these streams
abbrev pub root_entry : List ℕ → List (List ℕ × List ℕ) → Entry
root_entry clsid streams = record {
  name = codes "Root Entry";
  kind = 5;
  left = NO_ENTRY;
  right = NO_ENTRY;
  child = middle 1 (length streams);
  clsid = clsid;
  start = start_of (mini_stream_first streams) (mini_sectors streams);
  size = 64 * mini_sectors streams;
}

-- the first unit of a stream: of the sectors or of the mini sectors that are to be taken next
abbrev pub stream_start : ℕ → ℕ → ℕ → ℕ
stream_start next next_mini size = if size == 0 then END_OF_CHAIN else if is_mini size then next_mini else next

-- entry k of n for a stream
abbrev pub stream_entry : ℕ → ℕ → ℕ → ℕ → List ℕ × List ℕ → Entry
stream_entry n k next next_mini stream = record {
  name = stream.0;
  kind = 2;
  left = left_link n 1 n k;
  right = right_link n 1 n k;
  child = NO_ENTRY;
  clsid = replicate 16 0;
  start = stream_start next next_mini (length stream.1);
  size = length stream.1;
}

-- the entries of streams from number k on, whose sectors and mini sectors follow one another
abbrev pub stream_entries_bytes : ℕ → ℕ → ℕ → ℕ → List (List ℕ × List ℕ) → List ℕ
stream_entries_bytes n k next next_mini [] = []
stream_entries_bytes n k next next_mini (stream ∷ streams) =
    entry_bytes (stream_entry n k next next_mini stream)
    ++ stream_entries_bytes n (k + 1) (next + units 512 (large_part stream))
    (next_mini + units 64 (mini_part stream)) streams

-- the directory of these streams, in order
abbrev pub directory_of : List ℕ → List (List ℕ × List ℕ) → List ℕ
directory_of clsid streams =
    let n = length streams in
    entry_bytes (root_entry clsid streams)
    ++ stream_entries_bytes n 1 (large_first streams) 0 streams
    ++ concat (replicate (4 * directory_sectors n - (n + 1)) unused_entry)

-- THE WHOLE

-- what stands in sectors, in order
abbrev pub parts_of : List ℕ → List (List ℕ × List ℕ) → List (List ℕ)
parts_of clsid streams = directory_of clsid streams ∷ mini_fat streams ∷ mini_stream streams ∷ large_parts streams

-- how many sectors the directory, the mini FAT, the mini stream and the large streams take
abbrev pub taken_by : List (List ℕ × List ℕ) → ℕ
taken_by streams = large_first streams + all_units 512 (large_parts streams)

abbrev pub parts : Contents → List (List ℕ)
parts contents = parts_of contents.clsid (entries contents.streams)

-- how many sectors a file has that takes the place of an earlier one of so many bytes
abbrev pub total : Contents → ℕ → ℕ
total contents earlier = least_total (taken_by (entries contents.streams)) earlier

abbrev pub layout : Contents → ℕ → List ℕ
layout contents earlier = image (parts contents) (mini_fat_run (entries contents.streams)) (total contents earlier)

-- storages aren't written, nor is a file past 2^31 bytes
abbrev pub refuses : Contents → ℕ → Bool
refuses contents earlier = contents.has_storages || nat_lt (2 ^ 31) (512 * (total contents earlier + 1))
