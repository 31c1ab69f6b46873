-- The tree of a directory is that of its copy: its links, its entries by kind, and their names.
use Rattle.std.proofs.Common.{◌≡◌, ℕ, ◌<◌, Bool, eqb, List, [], ◌∷◌, length, get_or, filter, inl, inr, sym, ◌∙◌, ap, subst, arith, refl}
use Rattle.std.specs.List.{list_any}
use Rattle.msi_container_format.specs.Chains.{AreBelow}
use Rattle.msi_container_format.specs.Trees.{Tree, Leaf, Node, members, IsSpelled}
use Rattle.msi_container_format.specs.Container.{entry_count, kind, left, right, child, name, HasName, IsDirectoryTree, streams_among, has_storage}
use Rattle.msi_container_tables.specs.Reading.{IsNamelessListing, storages_among, AreNamed, HaveNamesApart}
use Rattle.msi_container_tables.proofs.parts.ListingLemmas.{each_rest}
use Rattle.msi_container_tables.proofs.parts.TreeLemmas.{members_below as spelled_below}
use Rattle.msi_container_view.specs.Copied.{HasHeaderOf, AreCopied}
use Rattle.msi_container_view.proofs.copies.HeaderCopyLemmas.{header_swapped, swapped}
use Rattle.msi_container_view.proofs.copies.DirectoryCopyLemmas.{same_entry_count, entry_in_copy, entries_in_copy, same_kind, same_left, same_right, same_child, same_name, name_of_copy}

-- TREES

-- a tree by the same links of entries
spelled_along : (f g u v : ℕ → ℕ) (count : ℕ) → ((k : ℕ) → k < count → f k ≡ u k) → ((k : ℕ) → k < count → g k ≡ v k) → (link : ℕ) (tree : Tree) → IsSpelled f g count link tree → IsSpelled u v count link tree
spelled_along f g u v count a b link Leaf s = s
spelled_along f g u v count a b link (Node l k r) s = (
  s.0,
  s.1,
  s.2,
  subst (λ x. IsSpelled u v count x l) (a k s.2) (spelled_along f g u v count a b (f k) l s.3),
  subst (λ x. IsSpelled u v count x r) (b k s.2) (spelled_along f g u v count a b (g k) r s.4),
)

pub tree_of_copy : (file copy directory places : List ℕ) → HasHeaderOf file copy → AreCopied file copy directory places → (link : ℕ) (tree : Tree) → IsDirectoryTree copy places link tree → IsDirectoryTree file directory link tree
tree_of_copy file copy directory places h c link tree s =
    spelled_along (left copy places) (right copy places) (left file directory) (right file directory) (entry_count file directory) (same_left file copy directory places h c) (same_right file copy directory places h c) link tree
    (subst (λ n. IsSpelled (left copy places) (right copy places) n link tree) (same_entry_count file copy directory places h c) s)

pub tree_in_copy : (file copy directory places : List ℕ) → HasHeaderOf file copy → AreCopied file copy directory places → (link : ℕ) (tree : Tree) → IsDirectoryTree file directory link tree → IsDirectoryTree copy places link tree
tree_in_copy file copy directory places h c link tree s = tree_of_copy copy file places directory (header_swapped file copy h) (swapped file copy directory places h c) link tree s

-- a tree's members are entries
pub members_below : (bytes directory : List ℕ) (link : ℕ) (tree : Tree) → IsDirectoryTree bytes directory link tree → AreBelow (entry_count bytes directory) (members tree)
members_below bytes directory link tree s = spelled_below (left bytes directory) (right bytes directory) (entry_count bytes directory) link tree s

pub listing_of_copy : (file copy directory places : List ℕ) → HasHeaderOf file copy → AreCopied file copy directory places → (tree : Tree) → 0 < entry_count file directory → IsNamelessListing copy places 0 tree → IsNamelessListing file directory 0 tree
listing_of_copy file copy directory places h c tree l listing =
    let from = same_child file copy directory places h c 0 l in
    let spelled = tree_of_copy file copy directory places h c (child copy places 0) tree listing.spelled in
    let below = members_below file directory (child copy places 0) tree spelled in
    let same : (i : ℕ) → i < length (members tree) → kind copy places (get_or (members tree) i 0) ≡ kind file directory (get_or (members tree) i 0) = λ i b. same_kind file copy directory places h c (get_or (members tree) i 0) (below i b) in
    record {
      spelled = subst (λ x. IsDirectoryTree file directory x tree) from spelled;
      once = listing.once;
      kinds = λ i b. elim (listing.kinds i b) [ inl e ↦ inl (sym (same i b) ∙ e) | inr e ↦ inr (sym (same i b) ∙ e) ];
    }

pub listing_in_copy : (file copy directory places : List ℕ) → HasHeaderOf file copy → AreCopied file copy directory places → (tree : Tree) → 0 < entry_count file directory → IsNamelessListing file directory 0 tree → IsNamelessListing copy places 0 tree
listing_in_copy file copy directory places h c tree l listing =
    listing_of_copy copy file places directory (header_swapped file copy h) (swapped file copy directory places h c) tree (entry_in_copy file copy directory places h c 0 l) listing

-- KINDS

-- entries that are told by the same test
filter_along : (p q : ℕ → Bool) (count : ℕ) → ((k : ℕ) → k < count → p k ≡ q k) → (ks : List ℕ) → AreBelow count ks → filter p ks ≡ filter q ks
filter_along p q count e [] b = refl
filter_along p q count e (k ∷ ks) b =
    let here = e k (b 0 (omega arith)) in
    let rest = filter_along p q count e ks (each_rest (λ x. x < count) k ks b) in
    cc

any_along : (p q : ℕ → Bool) (count : ℕ) → ((k : ℕ) → k < count → p k ≡ q k) → (ks : List ℕ) → AreBelow count ks → list_any p ks ≡ list_any q ks
any_along p q count e [] b = refl
any_along p q count e (k ∷ ks) b =
    let here = e k (b 0 (omega arith)) in
    let rest = any_along p q count e ks (each_rest (λ x. x < count) k ks b) in
    cc

pub same_storages : (file copy directory places : List ℕ) → HasHeaderOf file copy → AreCopied file copy directory places → (ks : List ℕ) → AreBelow (entry_count file directory) ks → storages_among copy places ks ≡ storages_among file directory ks
same_storages file copy directory places h c ks b =
    filter_along (λ k. eqb (kind copy places k) 1) (λ k. eqb (kind file directory k) 1) (entry_count file directory) (λ k l. ap (λ n. eqb n 1) (same_kind file copy directory places h c k l)) ks b

pub same_streams : (file copy directory places : List ℕ) → HasHeaderOf file copy → AreCopied file copy directory places → (ks : List ℕ) → AreBelow (entry_count file directory) ks → streams_among copy places ks ≡ streams_among file directory ks
same_streams file copy directory places h c ks b =
    filter_along (λ k. eqb (kind copy places k) 2) (λ k. eqb (kind file directory k) 2) (entry_count file directory) (λ k l. ap (λ n. eqb n 2) (same_kind file copy directory places h c k l)) ks b

pub same_has_storage : (file copy directory places : List ℕ) → HasHeaderOf file copy → AreCopied file copy directory places → (ks : List ℕ) → AreBelow (entry_count file directory) ks → has_storage copy places ks ≡ has_storage file directory ks
same_has_storage file copy directory places h c ks b =
    any_along (λ k. eqb (kind copy places k) 1) (λ k. eqb (kind file directory k) 1) (entry_count file directory) (λ k l. ap (λ n. eqb n 1) (same_kind file copy directory places h c k l)) ks b

-- NAMES

-- a name that is well formed in the copy is the file's
name_is : (file copy directory places : List ℕ) → HasHeaderOf file copy → AreCopied file copy directory places → (k : ℕ) → k < entry_count file directory → HasName copy places k → name copy places k ≡ name file directory k
name_is file copy directory places h c k l named = same_name file copy directory places h c k l (name_of_copy file copy directory places h c k l named).most

named_of_copy : (file copy directory places : List ℕ) → HasHeaderOf file copy → AreCopied file copy directory places → (ks : List ℕ) → AreBelow (entry_count file directory) ks → AreNamed copy places ks → AreNamed file directory ks
named_of_copy file copy directory places h c ks b n = record {
  named = λ i l. name_of_copy file copy directory places h c (get_or ks i 0) (b i l) (n.named i l);
  own = λ i j l m e.
      let before : i < length ks = omega arith in
      n.own i j l m (name_is file copy directory places h c (get_or ks i 0) (b i before) (n.named i before) ∙ e ∙ sym (name_is file copy directory places h c (get_or ks j 0) (b j m) (n.named j m)));
}

pub apart_of_copy : (file copy directory places : List ℕ) → HasHeaderOf file copy → AreCopied file copy directory places → (storages streams : List ℕ) → AreBelow (entry_count file directory) storages → AreBelow (entry_count file directory) streams → HaveNamesApart copy places storages streams → HaveNamesApart file directory storages streams
apart_of_copy file copy directory places h c storages streams a b n = record {
  storages_named = named_of_copy file copy directory places h c storages a n.storages_named;
  streams_named = named_of_copy file copy directory places h c streams b n.streams_named;
  apart = λ i j l m e.
      n.apart i j l m (name_is file copy directory places h c (get_or storages i 0) (a i l) (n.storages_named.named i l) ∙ e ∙ sym (name_is file copy directory places h c (get_or streams j 0) (b j m) (n.streams_named.named j m)));
}

pub apart_in_copy : (file copy directory places : List ℕ) → HasHeaderOf file copy → AreCopied file copy directory places → (storages streams : List ℕ) → AreBelow (entry_count file directory) storages → AreBelow (entry_count file directory) streams → HaveNamesApart file directory storages streams → HaveNamesApart copy places storages streams
apart_in_copy file copy directory places h c storages streams a b n =
    apart_of_copy copy file places directory (header_swapped file copy h) (swapped file copy directory places h c) storages streams
    (entries_in_copy file copy directory places h c storages a) (entries_in_copy file copy directory places h c streams b) n
