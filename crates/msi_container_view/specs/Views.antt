-- What is known of a compound file that is looked at: where its streams lie, by their names.
use Rattle.std.specs.Prelude.{◌≡◌, ℕ, ◌+◌, ◌*◌, ◌≤◌, Bool, List, Option, length, map}
use Rattle.std.specs.FinMap.{FinMap, entries, from_entries, get}
use Rattle.msi_container_device.specs.Held.{Held, bytes_told}
use Rattle.msi_container_format.specs.declared.contents.Contents.{Contents}
use Rattle.msi_container_format.specs.Names.{name_cmp}
use Rattle.msi_container_format.specs.Container.{Holds, Plan, IsPlan, sector_size}
use Rattle.msi_container_view.specs.Reading.{Tells}
use Rattle.msi_container_view.specs.Extents.{Extent, bytes_of}

-- the pieces of the file that each stream is, by its name
abbrev pub Located : Type 0
Located = FinMap name_cmp (List Extent)

-- the streams with their bytes, which lie in the file
abbrev pub streams_at : List ℕ → List (List ℕ × List Extent) → FinMap name_cmp (List ℕ)
streams_at file located = from_entries (map (λ e. (e.0, bytes_of file e.1)) located)

abbrev pub streams_in : List ℕ → Located → FinMap name_cmp (List ℕ)
streams_in file located = streams_at file (entries located)

-- the pieces of the stream of a name
abbrev pub extents_at : List ℕ → List (List ℕ × List Extent) → Option (List Extent)
extents_at name located = get (from_entries {R = name_cmp} located) name

-- a file's root, and where its streams lie; of the source: what it holds, and how many of its bytes were read
pub record View : Type 0 where
  pub clsid : List ℕ
  pub has_storages : Bool
  pub streams : List (List ℕ × List Extent)
  pub held : Option Held
  pub bytes_read : ℕ

-- the contents that are looked at, in a file
abbrev pub contents_in : List ℕ → View → Contents
contents_in file v = record {
  clsid = v.clsid;
  streams = streams_at file v.streams;
  has_storages = v.has_storages;
}

-- A file that the source tells holds the contents that are looked at
abbrev pub IsView : View → Type 0
IsView v = (file : List ℕ) → Tells v.held file → Holds file (contents_in file v)

-- How many bytes a look reads at most: the header's sector, and the sectors of the DIFAT, the FAT, the directory and
-- the mini FAT
abbrev pub tables_size : List ℕ → Plan → ℕ
tables_size file plan =
    (1 + length plan.difat + length plan.fat + length plan.directory + length plan.mini_fat) * sector_size file

abbrev pub ReadsTables : List ℕ → ℕ → Type 0
ReadsTables file count = (plan : Plan) × IsPlan file plan × (count ≤ tables_size file plan)

-- The view after reading so many bytes more, of which the source still tells the same
pub record ReadsMore (old new : View) (count : ℕ) : Type 0 where
  pub told : bytes_told new.held ≡ bytes_told old.held
  pub clsids : new.clsid ≡ old.clsid
  pub storages : new.has_storages ≡ old.has_storages
  pub streams : new.streams ≡ old.streams
  pub read : new.bytes_read ≤ old.bytes_read + count
