-- Storages below the root (MS-CFB 2.6): what lies in one, and where a path of names leads.
use Rattle.std.specs.Prelude.{◌≡◌, ℕ, ◌==◌, ◌&&◌, Bool, if◌then◌else◌, List, [], ◌∷◌}
use Rattle.std.specs.Prelude.{Option, Some, None, MatchOption}
use Rattle.std.specs.BTreeMap.{is_at}
use Rattle.msi_container_format.specs.Bytes.{bytes_at}
use Rattle.msi_container_format.specs.Chains.{AreDistinct}
use Rattle.msi_container_format.specs.Names.{name_cmp}
use Rattle.msi_container_format.specs.Trees.{Tree, members}
use Rattle.msi_container_format.specs.Container.{IsDirectoryTree, AreEntries, HaveOwnNames, kind, child, name, field}

-- what lies directly in a storage: the tree that its child link spells, of storages and streams with names of their own
pub record IsStorageTree (bytes directory : List ℕ) (storage : ℕ) (tree : Tree) : Type 0 where
  pub spelled : IsDirectoryTree bytes directory (child bytes directory storage) tree
  pub once : AreDistinct (members tree)
  pub entries : AreEntries bytes directory (members tree)
  pub names : HaveOwnNames bytes directory (members tree)

-- whether an entry is the storage of a name
abbrev pub is_storage_named : (bytes directory : List ℕ) → List ℕ → ℕ → Bool
is_storage_named bytes directory q k =
    (kind bytes directory k == 1) && is_at (name_cmp q) (name bytes directory k)

-- the storage of a name among some entries
abbrev pub storage_named : (bytes directory : List ℕ) → List ℕ → List ℕ → Option ℕ
storage_named bytes directory q [] = None
storage_named bytes directory q (k ∷ ks) =
    if is_storage_named bytes directory q k then Some k else storage_named bytes directory q ks

-- where a path of names leads from a storage: each name is that of a storage in the one before it. It leads to none
-- where a name isn't.
abbrev pub Leads : (bytes directory : List ℕ) → List (List ℕ) → ℕ → Option ℕ → Type 0
Leads bytes directory [] storage found = found ≡ Some storage
Leads bytes directory (q ∷ path) storage found =
    (tree : Tree) × IsStorageTree bytes directory storage tree
    × MatchOption (storage_named bytes directory q (members tree)) (found ≡ None)
    (λ next. Leads bytes directory path next found)

-- where a path leads from the root
pub record IsPath (bytes directory : List ℕ) (path : List (List ℕ)) (found : Option ℕ) : Type 0 where
  pub root : kind bytes directory 0 ≡ 5
  pub leads : Leads bytes directory path 0 found

-- a storage's CLSID
abbrev pub storage_clsid : (bytes directory : List ℕ) → ℕ → List ℕ
storage_clsid bytes directory k = bytes_at bytes (field bytes directory k 80) 16
