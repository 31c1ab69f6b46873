-- What lies in the root of a copied directory is what lies in the file's.
use Rattle.std.proofs.Common.{◌≡◌, ℕ, ◌<◌, Bool, List, [], length, Option, Some, sym, ◌∙◌, arith, refl}
use Rattle.msi_container_format.specs.Trees.{Tree, members}
use Rattle.msi_container_format.specs.Container.{entry_count, kind, has_storage, streams_among}
use Rattle.msi_container_tables.specs.Reading.{IsNamelessListing, storages_among}
use Rattle.msi_container_tables.specs.Paths.{IsPath}
use Rattle.msi_container_tables.proofs.parts.ListingLemmas.{some_entries}
use Rattle.msi_container_view.specs.Copied.{HasHeaderOf, AreCopied}
use Rattle.msi_container_view.proofs.copies.DirectoryCopyLemmas.{same_kind}
use Rattle.msi_container_view.proofs.copies.TreeCopyLemmas.{members_below, listing_of_copy, listing_in_copy, same_storages, same_streams, same_has_storage}

-- what lies in the root, and whether storages do
abbrev pub AreInRoot : (bytes directory : List ℕ) → ℕ → Bool → (storages streams : List ℕ) → Type 0
AreInRoot bytes directory root has storages streams =
    (tree : Tree) × IsNamelessListing bytes directory root tree
    × (has ≡ has_storage bytes directory (members tree))
    × (storages ≡ storages_among bytes directory (members tree))
    × (streams ≡ streams_among bytes directory (members tree))

some_is : (x y : ℕ) → ◌≡◌ {A = Option ℕ} (Some x) (Some y) → x ≡ y
some_is x y e = cc

-- the empty path leads to the root
pub root_is : (bytes directory : List ℕ) (root : ℕ) → IsPath bytes directory [] (Some root) → root ≡ 0
root_is bytes directory root path = some_is root 0 path.leads

pub path_to_root : (bytes directory : List ℕ) → kind bytes directory 0 ≡ 5 → IsPath bytes directory [] (Some 0)
path_to_root bytes directory e = record { root = e; leads = refl }

-- a directory that has a sector has a root
pub has_root : (file copy directory places : List ℕ) → AreCopied file copy directory places → 0 < length places → 0 < entry_count file directory
has_root file copy directory places c some = some_entries file directory (omega (arith, c.long))

root_of_copy : (file copy directory places : List ℕ) (has : Bool) (storages streams : List ℕ)
    → HasHeaderOf file copy → AreCopied file copy directory places
    → 0 < length places
    → kind copy places 0 ≡ 5
    → AreInRoot copy places 0 has storages streams
    → (kind file directory 0 ≡ 5) × (tree : Tree) × IsNamelessListing file directory 0 tree
    × (has ≡ has_storage file directory (members tree))
    × (storages ≡ storages_among file directory (members tree))
    × (streams ≡ streams_among file directory (members tree))
root_of_copy file copy directory places has storages streams h c some root found =
    let rooted = has_root file copy directory places c some in
    let tree = found.0 in
    let listing = listing_of_copy file copy directory places h c tree rooted found.1 in
    let below = members_below file directory _ tree listing.spelled in (
      sym (same_kind file copy directory places h c 0 rooted) ∙ root,
      tree,
      listing,
      found.2 ∙ same_has_storage file copy directory places h c (members tree) below,
      found.3 ∙ same_storages file copy directory places h c (members tree) below,
      found.4 ∙ same_streams file copy directory places h c (members tree) below,
    )

-- what was found in the copy, where its bytes and its sectors have other names, is in the file
pub root_found : (copy places bytes sectors : List ℕ) (root : ℕ) (has : Bool) (storages streams : List ℕ)
    → bytes ≡ copy
    → sectors ≡ places
    → 0 < length places
    → IsPath bytes sectors [] (Some root)
    → AreInRoot bytes sectors root has storages streams
    → (file directory : List ℕ) → HasHeaderOf file copy → AreCopied file copy directory places
    → (kind file directory 0 ≡ 5) × (tree : Tree) × IsNamelessListing file directory 0 tree
    × (has ≡ has_storage file directory (members tree))
    × (storages ≡ storages_among file directory (members tree))
    × (streams ≡ streams_among file directory (members tree))
root_found copy places bytes sectors root has storages streams b s some path found file directory h c =
    let first = root_is bytes sectors root path in
    let rooted = path.root in
    root_of_copy file copy directory places has storages streams h c some (rw (b, s) at rooted) (rw (b, s, first) at found)

-- and what is in the file is in the copy
pub root_in_copy : (copy places bytes sectors : List ℕ)
    → bytes ≡ copy
    → sectors ≡ places
    → 0 < length places
    → (file directory : List ℕ) → HasHeaderOf file copy → AreCopied file copy directory places
    → kind file directory 0 ≡ 5
    → IsPath bytes sectors [] (Some 0)
root_in_copy copy places bytes sectors b s some file directory h c e =
    rw (b, s) (path_to_root copy places (same_kind file copy directory places h c 0 (has_root file copy directory places c some) ∙ e))

pub listing_in_root : (copy places bytes sectors : List ℕ) (root : ℕ)
    → bytes ≡ copy
    → sectors ≡ places
    → 0 < length places
    → root ≡ 0
    → (file directory : List ℕ) → HasHeaderOf file copy → AreCopied file copy directory places
    → (tree : Tree)
    → IsNamelessListing file directory 0 tree
    → IsNamelessListing bytes sectors root tree
listing_in_root copy places bytes sectors root b s some first file directory h c tree listing =
    rw (b, s, first) (listing_in_copy file copy directory places h c tree (has_root file copy directory places c some) listing)
