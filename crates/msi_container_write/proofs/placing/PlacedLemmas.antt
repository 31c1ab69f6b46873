-- Where the streams of a layout lie, by their number from 0 on, and what is read of them.
use Rattle.std.proofs.Common.{◌≡◌, ℕ, ◌+◌, ◌*◌, ◌/◌, ◌%◌, ◌<◌, cond, List, [], length, get_or, take, map}
use Rattle.std.specs.List.{range_with_len}
use Rattle.std.specs.Int.{div_ceil}
use Rattle.msi_container_format.specs.Bytes.{place}
use Rattle.msi_container_format.specs.Chains.{IsChain}
use Rattle.msi_container_format.specs.Container as container
use Rattle.msi_container_format.specs.Container.{IsMiniFat, is_mini}
use Rattle.msi_container_write.specs.Balance.{middle, left_link, right_link}
use Rattle.msi_container_write.specs.Extents.{units, all_units, start_of}
use Rattle.msi_container_write.specs.Layout.{Entry, mini_part, large_part, mini_parts, large_parts, mini_sectors, mini_fat_sectors, mini_stream_sectors, directory_sectors, mini_stream_first, large_first, stream_entry, stream_start}

abbrev pub NamedStreams : Type 0
NamedStreams = List (List ℕ × List ℕ)

-- stream i, its name and its bytes
abbrev pub stream_at : NamedStreams → ℕ → List ℕ × List ℕ
stream_at streams i = get_or streams i ([], [])

abbrev pub name_at : NamedStreams → ℕ → List ℕ
name_at streams i = (stream_at streams i).0

abbrev pub bytes_of : NamedStreams → ℕ → List ℕ
bytes_of streams i = (stream_at streams i).1

-- the sector and the mini sector that are next when it is laid
abbrev pub sector_at : NamedStreams → ℕ → ℕ
sector_at streams i = large_first streams + all_units 512 (take i (large_parts streams))

abbrev pub mini_sector_at : NamedStreams → ℕ → ℕ
mini_sector_at streams i = all_units 64 (take i (mini_parts streams))

-- its entry in the directory
abbrev pub entry_at : NamedStreams → ℕ → Entry
entry_at streams i = stream_entry (length streams) (i + 1) (sector_at streams i) (mini_sector_at streams i) (stream_at streams i)

-- its sectors, and its mini sectors
abbrev pub large_at : NamedStreams → ℕ → List ℕ
large_at streams i = range_with_len (sector_at streams i) (units 512 (large_part (stream_at streams i)))

abbrev pub mini_at : NamedStreams → ℕ → List ℕ
mini_at streams i = range_with_len (mini_sector_at streams i) (units 64 (mini_part (stream_at streams i)))

abbrev pub members_at : NamedStreams → ℕ → List ℕ
members_at streams i = cond (is_mini (length (bytes_of streams i))) (mini_at streams i) (large_at streams i)

-- the sectors of the directory, the mini FAT and the mini stream
abbrev pub directory_run : NamedStreams → List ℕ
directory_run streams = range_with_len 0 (directory_sectors (length streams))

abbrev pub mini_fat_members : NamedStreams → List ℕ
mini_fat_members streams = range_with_len (directory_sectors (length streams)) (mini_fat_sectors streams)

abbrev pub mini_stream_members : NamedStreams → List ℕ
mini_stream_members streams = range_with_len (mini_stream_first streams) (mini_stream_sectors streams)

-- what the directory says of stream i, whose entry has number i + 1
pub record IsEntryRead (bytes directory : List ℕ) (streams : NamedStreams) (i : ℕ) : Type 0 where
  pub is_stream : container.kind bytes directory (i + 1) ≡ 2
  pub left : container.left bytes directory (i + 1) ≡ left_link (length streams) 1 (length streams) (i + 1)
  pub right : container.right bytes directory (i + 1) ≡ right_link (length streams) 1 (length streams) (i + 1)
  pub start : container.start_sector bytes directory (i + 1) ≡ stream_start (sector_at streams i) (mini_sector_at streams i) (length (bytes_of streams i))
  pub size : container.size bytes directory (i + 1) ≡ length (bytes_of streams i)
  pub named : container.HasName bytes directory (i + 1)
  pub name : container.name bytes directory (i + 1) ≡ name_at streams i

-- what it says of the root, and of each stream
pub record IsDirectoryRead (bytes directory root_clsid : List ℕ) (streams : NamedStreams) : Type 0 where
  pub root : container.kind bytes directory 0 ≡ 5
  pub child : container.child bytes directory 0 ≡ middle 1 (length streams)
  pub start : container.start_sector bytes directory 0 ≡ start_of (mini_stream_first streams) (mini_sectors streams)
  pub size : container.size bytes directory 0 ≡ 64 * mini_sectors streams
  pub clsid : container.clsid bytes directory ≡ root_clsid
  pub streams_read : (i : ℕ) → i < length streams → IsEntryRead bytes directory streams i

-- a byte of stream i, as the grammar reads it
abbrev pub byte_read : List ℕ → NamedStreams → ℕ → ℕ → ℕ
byte_read bytes streams i p =
    cond (is_mini (length (bytes_of streams i)))
    (get_or bytes (place 512 (mini_stream_members streams) (64 * get_or (members_at streams i) (p / 64) 0 + p % 64)) 0)
    (get_or bytes (place 512 (members_at streams i) p) 0)

-- the chains of the mini FAT, the mini stream and each stream, and the bytes of each stream, for a FAT in some sectors
pub record AreStreamsRead (bytes fat : List ℕ) (streams : NamedStreams) : Type 0 where
  pub mini_fat : IsMiniFat bytes fat (mini_fat_members streams)
  pub mini_stream : IsChain (container.successor bytes fat) (start_of (mini_stream_first streams) (mini_sectors streams)) (mini_stream_sectors streams) (mini_stream_members streams)
  pub chains : (i : ℕ) → i < length streams →
      IsChain
      (container.successor bytes (cond (is_mini (length (bytes_of streams i))) (mini_fat_members streams) fat))
      (stream_start (sector_at streams i) (mini_sector_at streams i) (length (bytes_of streams i)))
      (div_ceil (length (bytes_of streams i)) (cond (is_mini (length (bytes_of streams i))) 64 512))
      (members_at streams i)
  pub contents : (i : ℕ) → i < length streams → map (byte_read bytes streams i) (range_with_len 0 (length (bytes_of streams i))) ≡ bytes_of streams i
