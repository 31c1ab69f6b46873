-- The parts of a compound file in the order in which they are read, each with what it takes into use.
use Rattle.std.specs.Prelude.{◌≡◌, ◌≢◌, ℕ, ◌*◌, ◌/◌, ◌<◌, ◌≤◌, ◌==◌, Bool, true, false, List, [], ◌++◌, length}
use Rattle.std.specs.Prelude.{slice_index, map, filter, ◌⊎◌}
use Rattle.std.specs.List.{AllZip, list_any}
use Rattle.std.specs.BTreeMap.{is_at}
use Rattle.std.specs.declared.vec.Vec.{Vec}
use Rattle.std.specs.declared.alloc.Global.{Global}
use Rattle.msi_container_format.specs.Chains.{AreBelow, AreDistinct}
use Rattle.msi_container_format.specs.Names.{name_cmp}
use Rattle.msi_container_format.specs.Container.{IsHeader, IsDifat, fat_of, IsDirectory, IsMiniFat, IsMiniStream}
use Rattle.msi_container_format.specs.Container.{IsMembers, is_mini, all_sectors, all_mini_sectors, sector_size, size}
use Rattle.msi_container_format.specs.Container.{kind, child, name, HasName, HaveOwnNames, IsDirectoryTree}
use Rattle.msi_container_format.specs.Trees.{Tree, members}
use Rattle.msi_container_tables.specs.Claims.{CanClaim}

-- the sectors of the DIFAT, the FAT and the directory
pub record IsStart (bytes : List ℕ) (limit : ℕ) (difat fat directory : List ℕ) : Type 0 where
  pub header : IsHeader bytes
  pub difats : IsDifat bytes difat
  pub fats : fat ≡ fat_of bytes difat
  pub chain : IsDirectory bytes fat directory
  pub room : CanClaim limit [] (difat ++ fat ++ directory)

-- entries that are storages and streams
abbrev pub AreOfKinds : (bytes directory : List ℕ) → List ℕ → Type 0
AreOfKinds bytes directory ks = (i : ℕ) → i < length ks
    → (kind bytes directory (slice_index ks i) ≡ 1) ⊎ (kind bytes directory (slice_index ks i) ≡ 2)

-- what lies directly in a storage, but for the names
pub record IsNamelessListing (bytes directory : List ℕ) (storage : ℕ) (tree : Tree) : Type 0 where
  pub spelled : IsDirectoryTree bytes directory (child bytes directory storage) tree
  pub once : AreDistinct (members tree)
  pub kinds : AreOfKinds bytes directory (members tree)

-- those entries that are storages
abbrev pub storages_among : List ℕ → List ℕ → List ℕ → List ℕ
storages_among bytes directory ks = filter (λ k. kind bytes directory k == 1) ks

-- each of these entries has a well-formed name of its own
pub record AreNamed (bytes directory ks : List ℕ) : Type 0 where
  pub named : (i : ℕ) → i < length ks → HasName bytes directory (slice_index ks i)
  pub own : HaveOwnNames bytes directory ks

-- whether one of these entries has this name
abbrev pub has_name : (bytes directory ks : List ℕ) → List ℕ → Bool
has_name bytes directory ks q = list_any (is_at (name_cmp q)) (map (name bytes directory) ks)

-- each of these storages and streams has a well-formed name of its own
pub record HaveNamesApart (bytes directory storages streams : List ℕ) : Type 0 where
  pub storages_named : AreNamed bytes directory storages
  pub streams_named : AreNamed bytes directory streams
  pub apart : (i j : ℕ) → i < length storages → j < length streams
      → name bytes directory (slice_index storages i) ≢ name bytes directory (slice_index streams j)

-- the sectors of the mini FAT and the mini stream, beside those in use
pub record IsMini (bytes : List ℕ) (limit : ℕ) (used fat directory mini_fat mini_stream : List ℕ) : Type 0 where
  pub table : IsMiniFat bytes fat mini_fat
  pub stream : IsMiniStream bytes fat directory mini_stream
  pub room : CanClaim limit used (mini_fat ++ mini_stream)

-- how many mini sectors the mini stream's sectors hold
abbrev pub mini_limit : List ℕ → List ℕ → ℕ
mini_limit bytes mini_stream = length mini_stream * (sector_size bytes / 64)

-- the members of these streams: sectors beside those in use, and mini sectors
pub record AreChained (bytes fat mini_fat directory mini_stream : List ℕ)
    (limit : ℕ) (used ks : List ℕ) (chains : List (List ℕ)) : Type 0 where
  pub chained : AllZip (IsMembers bytes fat mini_fat directory) ks chains
  pub room : CanClaim limit used (all_sectors bytes directory ks chains)
  pub mini_room : CanClaim (mini_limit bytes mini_stream) [] (all_mini_sectors bytes directory ks chains)

-- an entry's members hold as many bytes as its size says, and its mini sectors lie in the mini stream
pub record IsCovered (bytes mini_stream directory : List ℕ) (k : ℕ) (c : List ℕ) : Type 0 where
  pub large : is_mini (size bytes directory k) ≡ false → size bytes directory k ≤ length c * sector_size bytes
  pub small : is_mini (size bytes directory k) ≡ true → size bytes directory k ≤ 64 * length c
  pub within : is_mini (size bytes directory k) ≡ true → AreBelow (mini_limit bytes mini_stream) c

-- what vectors hold
abbrev pub views : List (Vec ℕ Global) → List (List ℕ)
views = map (λ v. v.items)
