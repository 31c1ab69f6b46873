-- The grammar of a compound file (MS-CFB): which contents some bytes hold.
use Rattle.std.specs.Prelude.{◌≡◌, ◌≢◌, ℕ, ◌+◌, ◌-◌, ◌*◌, ◌/◌, ◌%◌, ◌<◌, ◌≤◌, Bool, if◌then◌else◌, ◌==◌, nat_lt, List}
use Rattle.std.specs.Prelude.{[], ◌++◌, length, slice_index, map, filter, Option, Some, None, ◌⊎◌, IsTrue}
use Rattle.std.specs.List.{range_with_len, zip, flat_map, list_any, AllZip}
use Rattle.std.specs.Int.{div_ceil}
use Rattle.std.specs.FinMap.{from_entries}
use Rattle.msi_container_format.specs.declared.contents.Contents.{Contents}
use Rattle.msi_container_format.specs.Bytes.{number16, number32, number64, bytes_at, place}
use Rattle.msi_container_format.specs.Chains.{AreDistinct, IsChain}
use Rattle.msi_container_format.specs.Format.{MAX_REGULAR_SECTOR, END_OF_CHAIN, signature}
use Rattle.msi_container_format.specs.Names.{is_text}
use Rattle.msi_container_format.specs.Trees.{Tree, members, IsSpelled}

-- HEADER

abbrev pub version : List ℕ → ℕ
version bytes = number16 bytes 26

abbrev pub sector_size : List ℕ → ℕ
sector_size bytes = if version bytes == 4 then 4096 else 512

-- how many FAT sectors there are, and where the directory, the mini FAT and the DIFAT start
abbrev pub fat_count : List ℕ → ℕ
fat_count bytes = number32 bytes 44

abbrev pub directory_start : List ℕ → ℕ
directory_start bytes = number32 bytes 48

abbrev pub mini_fat_start : List ℕ → ℕ
mini_fat_start bytes = number32 bytes 60

abbrev pub difat_start : List ℕ → ℕ
difat_start bytes = number32 bytes 68

pub record IsHeader (bytes : List ℕ) : Type 0 where
  pub signed : bytes_at bytes 0 8 ≡ signature
  pub versioned : ((version bytes ≡ 3) × (number16 bytes 30 ≡ 9)) ⊎ ((version bytes ≡ 4) × (number16 bytes 30 ≡ 12))
  pub order : number16 bytes 28 ≡ 0xFFFE
  pub mini_shift : number16 bytes 32 ≡ 6
  pub cutoff : number32 bytes 56 ≡ 4096

-- SECTORS AND TABLES

-- a sector that can be used: a regular number, and it starts inside the file
abbrev pub IsSector : List ℕ → ℕ → Type 0
IsSector bytes n = (n ≤ MAX_REGULAR_SECTOR) × ((n + 1) * sector_size bytes < length bytes)

-- the successor that a table names, whose bytes are those of these sectors, four for each entry
abbrev pub successor : List ℕ → List ℕ → ℕ → Option ℕ
successor bytes sectors n =
    if nat_lt (4 * n) (length sectors * sector_size bytes)
    then Some (number32 bytes (place (sector_size bytes) sectors (4 * n))) else None

-- a chain that runs to the end mark
pub record IsWholeChain (next : ℕ → Option ℕ) (start : ℕ) (c : List ℕ) : Type 0 where
  pub filled : 0 < length c
  pub chain : IsChain next start (length c) c
  pub ended : next (slice_index c (length c - 1)) ≡ Some END_OF_CHAIN

-- the number that the DIFAT lists at place k: first the header's 109, then those of its sectors, each of which ends in
-- the number of the next
abbrev pub listed : List ℕ → List ℕ → ℕ → ℕ
listed bytes difat k =
    let each = sector_size bytes / 4 - 1 in
    if nat_lt k 109 then number32 bytes (76 + 4 * k)
    else number32 bytes ((slice_index difat ((k - 109) / each) + 1) * sector_size bytes + 4 * ((k - 109) % each))

abbrev pub next_difat : List ℕ → ℕ → Option ℕ
next_difat bytes n = Some (number32 bytes ((n + 1) * sector_size bytes + (sector_size bytes - 4)))

-- the sectors of the DIFAT, as many as the number of FAT sectors needs
abbrev pub IsDifat : (bytes difat : List ℕ) → Type 0
IsDifat bytes difat = IsChain (next_difat bytes) (difat_start bytes)
    (div_ceil (fat_count bytes - 109) (sector_size bytes / 4 - 1)) difat

-- the sectors of the FAT, by those of the DIFAT
abbrev pub fat_of : (bytes difat : List ℕ) → List ℕ
fat_of bytes difat = map (listed bytes difat) (range_with_len 0 (fat_count bytes))

-- the sectors of the directory, by those of the FAT
abbrev pub IsDirectory : (bytes fat directory : List ℕ) → Type 0
IsDirectory bytes fat directory = IsWholeChain (successor bytes fat) (directory_start bytes) directory

-- the mini FAT: a chain to the end mark, or none where its start is no sector
abbrev pub IsMiniFat : (bytes fat mini_fat : List ℕ) → Type 0
IsMiniFat bytes fat mini_fat =
    ((mini_fat_start bytes ≤ MAX_REGULAR_SECTOR) × IsWholeChain (successor bytes fat) (mini_fat_start bytes) mini_fat)
    ⊎ ((MAX_REGULAR_SECTOR < mini_fat_start bytes) × (mini_fat ≡ []))

-- DIRECTORY

-- where a field of entry k stands
abbrev pub field : List ℕ → List ℕ → ℕ → ℕ → ℕ
field bytes directory k offset = place (sector_size bytes) directory (128 * k + offset)

abbrev pub entry_count : List ℕ → List ℕ → ℕ
entry_count bytes directory = length directory * (sector_size bytes / 128)

-- 1 a storage, 2 a stream, 5 the root
abbrev pub kind : List ℕ → List ℕ → ℕ → ℕ
kind bytes directory k = slice_index bytes (field bytes directory k 66)

abbrev pub left : List ℕ → List ℕ → ℕ → ℕ
left bytes directory k = number32 bytes (field bytes directory k 68)

abbrev pub right : List ℕ → List ℕ → ℕ → ℕ
right bytes directory k = number32 bytes (field bytes directory k 72)

abbrev pub child : List ℕ → List ℕ → ℕ → ℕ
child bytes directory k = number32 bytes (field bytes directory k 76)

abbrev pub start_sector : List ℕ → List ℕ → ℕ → ℕ
start_sector bytes directory k = number32 bytes (field bytes directory k 116)

-- version 3 uses the low half
abbrev pub size : List ℕ → List ℕ → ℕ → ℕ
size bytes directory k = if version bytes == 4 then number64 bytes (field bytes directory k 120)
    else number32 bytes (field bytes directory k 120)

-- the bytes that an entry's name takes, with the closing null
abbrev pub name_size : List ℕ → List ℕ → ℕ → ℕ
name_size bytes directory k = number16 bytes (field bytes directory k 64)

-- the UTF-16 units of an entry's name, without the closing null
abbrev pub name : List ℕ → List ℕ → ℕ → List ℕ
name bytes directory k =
    map (λ i. number16 bytes (field bytes directory k (2 * i))) (range_with_len 0 (name_size bytes directory k / 2 - 1))

-- an entry's name is well formed
pub record HasName (bytes directory : List ℕ) (k : ℕ) : Type 0 where
  pub even : name_size bytes directory k % 2 ≡ 0
  pub least : 4 ≤ name_size bytes directory k
  pub most : name_size bytes directory k ≤ 64
  pub text : IsTrue (is_text (name bytes directory k))

-- an entry below the root: a storage or a stream, with a name
pub record IsEntry (bytes directory : List ℕ) (k : ℕ) : Type 0 where
  pub kinds : (kind bytes directory k ≡ 1) ⊎ (kind bytes directory k ≡ 2)
  pub named : HasName bytes directory k

abbrev pub AreEntries : List ℕ → List ℕ → List ℕ → Type 0
AreEntries bytes directory ks = (i : ℕ) → i < length ks → IsEntry bytes directory (slice_index ks i)

-- the tree that a link spells in a directory
abbrev pub IsDirectoryTree : List ℕ → List ℕ → ℕ → Tree → Type 0
IsDirectoryTree bytes directory link tree =
    IsSpelled (left bytes directory) (right bytes directory) (entry_count bytes directory) link tree

-- no two of these entries have one name
abbrev pub HaveOwnNames : List ℕ → List ℕ → List ℕ → Type 0
HaveOwnNames bytes directory ks =
    (i j : ℕ) → i < j → j < length ks
    → name bytes directory (slice_index ks i) ≢ name bytes directory (slice_index ks j)

-- the root, and the entries below it
pub record IsListing (bytes directory : List ℕ) (tree : Tree) : Type 0 where
  pub root : kind bytes directory 0 ≡ 5
  pub spelled : IsDirectoryTree bytes directory (child bytes directory 0) tree
  pub once : AreDistinct (members tree)
  pub entries : AreEntries bytes directory (members tree)
  pub names : HaveOwnNames bytes directory (members tree)

-- STREAMS

-- the sectors of the mini stream, which is the root's
abbrev pub IsMiniStream : (bytes fat directory mini_stream : List ℕ) → Type 0
IsMiniStream bytes fat directory mini_stream =
    IsChain (successor bytes fat) (start_sector bytes directory 0)
    (div_ceil (size bytes directory 0) (sector_size bytes)) mini_stream

-- those entries that are streams
abbrev pub streams_among : List ℕ → List ℕ → List ℕ → List ℕ
streams_among bytes directory ks = filter (λ k. kind bytes directory k == 2) ks

-- whether a stream of so many bytes lies in mini sectors
abbrev pub is_mini : ℕ → Bool
is_mini n = nat_lt n 4096

-- the members of an entry's stream: mini sectors below 4096 bytes, and sectors from there on
abbrev pub IsMembers : (bytes fat mini_fat directory : List ℕ) → ℕ → List ℕ → Type 0
IsMembers bytes fat mini_fat directory k c =
    IsChain
    (successor bytes (if is_mini (size bytes directory k) then mini_fat else fat))
    (start_sector bytes directory k)
    (div_ceil (size bytes directory k) (if is_mini (size bytes directory k) then 64 else sector_size bytes))
    c

-- the sectors among an entry's members, and the mini sectors
abbrev pub sectors_in : List ℕ → List ℕ → ℕ × List ℕ → List ℕ
sectors_in bytes directory x = if is_mini (size bytes directory x.0) then [] else x.1

abbrev pub mini_sectors_in : List ℕ → List ℕ → ℕ × List ℕ → List ℕ
mini_sectors_in bytes directory x = if is_mini (size bytes directory x.0) then x.1 else []

-- those of all entries, in order
abbrev pub all_sectors : List ℕ → List ℕ → List ℕ → List (List ℕ) → List ℕ
all_sectors bytes directory ks chains = flat_map (sectors_in bytes directory) (zip ks chains)

abbrev pub all_mini_sectors : List ℕ → List ℕ → List ℕ → List (List ℕ) → List ℕ
all_mini_sectors bytes directory ks chains = flat_map (mini_sectors_in bytes directory) (zip ks chains)

-- byte i of what lies in some sectors, and of what lies in some mini sectors
abbrev pub sector_byte : List ℕ → List ℕ → ℕ → ℕ
sector_byte bytes c i = slice_index bytes (place (sector_size bytes) c i)

abbrev pub mini_sector_byte : List ℕ → List ℕ → List ℕ → ℕ → ℕ
mini_sector_byte bytes mini_stream c i =
    slice_index bytes (place (sector_size bytes) mini_stream (64 * slice_index c (i / 64) + i % 64))

-- an entry's stream has its members' bytes, cut at its size
abbrev pub stream_byte : (bytes mini_stream directory : List ℕ) → ℕ → List ℕ → ℕ → ℕ
stream_byte bytes mini_stream directory k c i =
    if is_mini (size bytes directory k) then mini_sector_byte bytes mini_stream c i else sector_byte bytes c i

abbrev pub stream_bytes : (bytes mini_stream directory : List ℕ) → ℕ → List ℕ → List ℕ
stream_bytes bytes mini_stream directory k c =
    map (stream_byte bytes mini_stream directory k c) (range_with_len 0 (size bytes directory k))

-- each entry's name and bytes
abbrev pub named_bytes : (bytes mini_stream directory : List ℕ) → List ℕ → List (List ℕ) → List (List ℕ × List ℕ)
named_bytes bytes mini_stream directory ks chains =
    map (λ x. (name bytes directory x.0, stream_bytes bytes mini_stream directory x.0 x.1)) (zip ks chains)

-- THE WHOLE

-- where the parts of a container stand
pub record Plan : Type 0 where
  pub difat : List ℕ
  pub fat : List ℕ
  pub directory : List ℕ
  pub mini_fat : List ℕ
  pub mini_stream : List ℕ
  pub tree : Tree
  -- for each stream of the tree, in order, its members
  pub chains : List (List ℕ)

-- the entries of streams, in the tree's order
abbrev pub stream_entries : List ℕ → Plan → List ℕ
stream_entries bytes plan = streams_among bytes plan.directory (members plan.tree)

-- the sectors that streams lie in, and the mini sectors
abbrev pub sectors_of_streams : List ℕ → Plan → List ℕ
sectors_of_streams bytes plan = all_sectors bytes plan.directory (stream_entries bytes plan) plan.chains

abbrev pub mini_sectors_of_streams : List ℕ → Plan → List ℕ
mini_sectors_of_streams bytes plan = all_mini_sectors bytes plan.directory (stream_entries bytes plan) plan.chains

-- each sector in use, as often as it is
abbrev pub sectors_used : List ℕ → Plan → List ℕ
sectors_used bytes plan =
    plan.difat ++ plan.fat ++ plan.directory ++ plan.mini_fat ++ plan.mini_stream ++ sectors_of_streams bytes plan

pub record IsPlan (bytes : List ℕ) (plan : Plan) : Type 0 where
  pub header : IsHeader bytes
  pub difat : IsDifat bytes plan.difat
  pub fat : plan.fat ≡ fat_of bytes plan.difat
  pub directory : IsDirectory bytes plan.fat plan.directory
  pub listing : IsListing bytes plan.directory plan.tree
  pub mini_fat : IsMiniFat bytes plan.fat plan.mini_fat
  pub mini_stream : IsMiniStream bytes plan.fat plan.directory plan.mini_stream
  pub streams : AllZip (IsMembers bytes plan.fat plan.mini_fat plan.directory) (stream_entries bytes plan) plan.chains
  pub sectors : (i : ℕ) → i < length (sectors_used bytes plan)
      → IsSector bytes (slice_index (sectors_used bytes plan) i)
  pub distinct : AreDistinct (sectors_used bytes plan)
  pub mini_sectors : (i : ℕ) → i < length (mini_sectors_of_streams bytes plan)
      → 64 * slice_index (mini_sectors_of_streams bytes plan) i < length plan.mini_stream * sector_size bytes
  pub mini_distinct : AreDistinct (mini_sectors_of_streams bytes plan)

-- the root's CLSID
abbrev pub clsid : List ℕ → List ℕ → List ℕ
clsid bytes directory = bytes_at bytes (field bytes directory 0 80) 16

-- whether a storage is among these entries
abbrev pub has_storage : List ℕ → List ℕ → List ℕ → Bool
has_storage bytes directory ks = list_any (λ k. kind bytes directory k == 1) ks

abbrev pub contents_of : List ℕ → Plan → Contents
contents_of bytes plan = record {
  clsid = clsid bytes plan.directory;
  streams = from_entries (named_bytes bytes plan.mini_stream plan.directory (stream_entries bytes plan) plan.chains);
  has_storages = has_storage bytes plan.directory (members plan.tree);
}

-- THE GRAMMAR

abbrev pub Holds : List ℕ → Contents → Type 0
Holds bytes contents = (plan : Plan) × IsPlan bytes plan × (contents ≡ contents_of bytes plan)

-- For given bytes there is at most one.
abbrev pub OneContents : Type 0
OneContents = (bytes : List ℕ) (a b : Contents) → Holds bytes a → Holds bytes b → a ≡ b
