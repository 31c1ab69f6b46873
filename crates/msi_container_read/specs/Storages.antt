-- Storages below the root (MS-CFB 2.6): which contents are held where a path of names leads.
use Rattle.std.specs.Prelude.{◌≡◌, ℕ, ◌*◌, ◌<◌, ◌↔◌, List, [], ◌++◌, length, slice_index, Some, None}
use Rattle.std.specs.List.{AllZip}
use Rattle.msi_container_format.specs.declared.contents.Contents.{Contents}
use Rattle.msi_container_format.specs.Chains.{AreDistinct}
use Rattle.msi_container_format.specs.Container.{IsHeader, IsSector, IsDifat, fat_of, IsDirectory, IsMiniFat}
use Rattle.msi_container_format.specs.Container.{IsMiniStream, IsMembers, kind, name, sector_size, Plan, stream_entries}
use Rattle.msi_container_format.specs.Container.{sectors_used, mini_sectors_of_streams, contents_of, Holds}
use Rattle.msi_container_tables.specs.Paths.{IsStorageTree, storage_named, IsPath, storage_clsid}

-- PATHS

-- the sectors of the DIFAT and of a directory: with those of the FAT they are sectors, and none is used twice
pub record HasDirectory (bytes difat directory : List ℕ) : Type 0 where
  pub header : IsHeader bytes
  pub difats : IsDifat bytes difat
  pub chain : IsDirectory bytes (fat_of bytes difat) directory
  pub sectors : (i : ℕ) → i < length (difat ++ fat_of bytes difat ++ directory)
      → IsSector bytes (slice_index (difat ++ fat_of bytes difat ++ directory) i)
  pub distinct : AreDistinct (difat ++ fat_of bytes difat ++ directory)

-- a name of the path is that of no storage in the one before it
abbrev pub IsMissing : List ℕ → List (List ℕ) → Type 0
IsMissing bytes path =
    (difat : List ℕ) × (directory : List ℕ) × HasDirectory bytes difat directory × IsPath bytes directory path None

-- CONTENTS

-- where the parts of a container stand, with the streams of the storage that a path leads to
pub record IsPlanAt (bytes : List ℕ) (path : List (List ℕ)) (storage : ℕ) (plan : Plan) : Type 0 where
  pub header : IsHeader bytes
  pub difat : IsDifat bytes plan.difat
  pub fat : plan.fat ≡ fat_of bytes plan.difat
  pub directory : IsDirectory bytes plan.fat plan.directory
  pub reached : IsPath bytes plan.directory path (Some storage)
  pub listing : IsStorageTree bytes plan.directory storage plan.tree
  pub mini_fat : IsMiniFat bytes plan.fat plan.mini_fat
  pub mini_stream : IsMiniStream bytes plan.fat plan.directory plan.mini_stream
  pub streams : AllZip (IsMembers bytes plan.fat plan.mini_fat plan.directory) (stream_entries bytes plan) plan.chains
  pub sectors : (i : ℕ) → i < length (sectors_used bytes plan)
      → IsSector bytes (slice_index (sectors_used bytes plan) i)
  pub distinct : AreDistinct (sectors_used bytes plan)
  pub mini_sectors : (i : ℕ) → i < length (mini_sectors_of_streams bytes plan)
      → 64 * slice_index (mini_sectors_of_streams bytes plan) i < length plan.mini_stream * sector_size bytes
  pub mini_distinct : AreDistinct (mini_sectors_of_streams bytes plan)

-- the contents of a plan, with the CLSID of its storage
abbrev pub contents_at : List ℕ → ℕ → Plan → Contents
contents_at bytes storage plan = record {
  clsid = storage_clsid bytes plan.directory storage;
  streams = (contents_of bytes plan).streams;
  has_storages = (contents_of bytes plan).has_storages;
}

-- THE GRAMMAR

abbrev pub HoldsAt : List ℕ → List (List ℕ) → Contents → Type 0
HoldsAt bytes path contents =
    (storage : ℕ) × (plan : Plan) × IsPlanAt bytes path storage plan × (contents ≡ contents_at bytes storage plan)

-- For given bytes and a path there is at most one.
abbrev pub OneContentsAt : Type 0
OneContentsAt = (bytes : List ℕ) (path : List (List ℕ)) (a b : Contents)
    → HoldsAt bytes path a → HoldsAt bytes path b → a ≡ b

-- The empty path leads to what the file holds.
abbrev pub EmptyPathIsRoot : Type 0
EmptyPathIsRoot = (bytes : List ℕ) (contents : Contents) → HoldsAt bytes [] contents ↔ Holds bytes contents

-- What is found under a name is one of the entries, a storage, and has this name.
abbrev pub FoundStoragesAreNamed : Type 0
FoundStoragesAreNamed = (bytes directory q ks : List ℕ) (k : ℕ) → storage_named bytes directory q ks ≡ Some k
    → ((i : ℕ) × (i < length ks) × (slice_index ks i ≡ k)) × (kind bytes directory k ≡ 1) × (name bytes directory k ≡ q)

-- No storage is both there and missing.
abbrev pub HeldIsNotMissing : Type 0
HeldIsNotMissing = (bytes : List ℕ) (path : List (List ℕ)) (contents : Contents)
    → HoldsAt bytes path contents → IsMissing bytes path → ⊥
