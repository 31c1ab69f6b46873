-- All storages below the root, in one list (MS-CFB 2.6): first those that lie in the root, then those that lie in the
-- first of these, and so on. Those that lie in one storage are in the order of its tree.
use Rattle.std.specs.Prelude.{◌≡◌, ℕ, ◌+◌, ◌-◌, ◌<◌, ◌==◌, ◌↔◌, if◌then◌else◌, List, [], ◌∷◌, ◌++◌, length}
use Rattle.std.specs.Prelude.{map, replicate, slice_index, Option, Some, None}
use Rattle.std.specs.List.{flat_map, range_with_len}
use Rattle.msi_container_format.specs.Chains.{AreDistinct}
use Rattle.msi_container_format.specs.Trees.{Tree, members}
use Rattle.msi_container_format.specs.Container.{kind, name, streams_among}
use Rattle.msi_container_tables.specs.Reading.{storages_among}
use Rattle.msi_container_tables.specs.Paths.{IsStorageTree, IsPath, storage_clsid}
use Rattle.msi_container_read.specs.Storages.{HasDirectory}
use Rattle.msi_container_read.specs.declared.storages.Storage.{Storage}

-- what lies in these storages, and then in those that lie in them: a tree for each storage, in turn
abbrev pub LieInTurn : (bytes directory : List ℕ) → List ℕ → List Tree → Type 0
LieInTurn bytes directory [] trees = trees ≡ []
LieInTurn bytes directory (k ∷ ks) [] = ⊥
LieInTurn bytes directory (k ∷ ks) (tree ∷ trees) =
    IsStorageTree bytes directory k tree
    × LieInTurn bytes directory (ks ++ storages_among bytes directory (members tree)) trees

-- what lies in the root and in all storages below it: no entry lies in two of them, or twice in one
pub record AreAllStorages (bytes directory : List ℕ) (trees : List Tree) : Type 0 where
  pub root : kind bytes directory 0 ≡ 5
  pub turns : LieInTurn bytes directory (0 ∷ []) trees
  pub once : AreDistinct (0 ∷ flat_map members trees)

-- the root, which is number 0, and the storages that lie in these, by their numbers
abbrev pub numbered : (bytes directory : List ℕ) → List Tree → List ℕ
numbered bytes directory trees = 0 ∷ flat_map (λ t. storages_among bytes directory (members t)) trees

abbrev pub stream_count : (bytes directory : List ℕ) → Tree → ℕ
stream_count bytes directory tree = length (streams_among bytes directory (members tree))

abbrev pub storage_count : (bytes directory : List ℕ) → Tree → ℕ
storage_count bytes directory tree = length (storages_among bytes directory (members tree))

-- for each storage that lies in these, the number of the one that it lies in, where the first of these has number n
abbrev pub homes_from : (bytes directory : List ℕ) → ℕ → List Tree → List ℕ
homes_from bytes directory n [] = []
homes_from bytes directory n (tree ∷ trees) =
    replicate (storage_count bytes directory tree) n ++ homes_from bytes directory (n + 1) trees

-- by number; that of the root is of no use
abbrev pub homes : (bytes directory : List ℕ) → List Tree → List ℕ
homes bytes directory trees = 0 ∷ homes_from bytes directory 0 trees

-- what is known of all of them, by number
abbrev pub found_of : (bytes directory : List ℕ) → List Tree → List ℕ × List ℕ × List ℕ × List ℕ
found_of bytes directory trees = (
  numbered bytes directory trees,
  homes bytes directory trees,
  map (stream_count bytes directory) trees,
  map (storage_count bytes directory) trees,
)

-- the place in the list, which has no root
abbrev pub place_of : ℕ → Option ℕ
place_of number = if number == 0 then None else Some (number - 1)

-- a storage as it is listed: its entry, the number of the one that it lies in, and how many of each lie in it
abbrev pub listed : (bytes directory : List ℕ) → (k home streams storages : ℕ) → Storage
listed bytes directory k home streams storages = record {
  name = name bytes directory k;
  parent = place_of home;
  clsid = storage_clsid bytes directory k;
  streams = streams;
  storages = storages;
}

-- that of a number
abbrev pub listed_at : (bytes directory ks homes streams storages : List ℕ) → ℕ → Storage
listed_at bytes directory ks homes streams storages i =
    listed bytes directory (slice_index ks i) (slice_index homes i) (slice_index streams i) (slice_index storages i)

-- all but the root, by their numbers
abbrev pub all_listed : (bytes directory ks homes streams storages : List ℕ) → List Storage
all_listed bytes directory ks homes streams storages =
    map (λ i. listed_at bytes directory ks homes streams storages (i + 1)) (range_with_len 0 (length ks - 1))

abbrev pub storages_of : (bytes directory : List ℕ) → List Tree → List Storage
storages_of bytes directory trees = all_listed bytes directory (numbered bytes directory trees)
    (homes bytes directory trees) (map (stream_count bytes directory) trees) (map (storage_count bytes directory) trees)

-- a number of a list
abbrev pub IsAmong : List ℕ → ℕ → Type 0
IsAmong ks k = (i : ℕ) × (i < length ks) × (slice_index ks i ≡ k)

-- the storages that are below the root of a file
abbrev pub HasStorages : List ℕ → List Storage → Type 0
HasStorages bytes storages = (difat : List ℕ) × (directory : List ℕ) × (trees : List Tree)
    × HasDirectory bytes difat directory × AreAllStorages bytes directory trees
    × (storages ≡ storages_of bytes directory trees)

-- For given bytes there is at most one list.
abbrev pub OneStorageList : Type 0
OneStorageList = (bytes : List ℕ) (a b : List Storage) → HasStorages bytes a → HasStorages bytes b → a ≡ b

-- The numbered storages are the root, and those that a path of names leads to from it.
abbrev pub NumberedAreReached : Type 0
NumberedAreReached = (bytes directory : List ℕ) (trees : List Tree) → AreAllStorages bytes directory trees
    → (k : ℕ) → IsAmong (numbered bytes directory trees) k
    ↔ ((path : List (List ℕ)) × IsPath bytes directory path (Some k))
