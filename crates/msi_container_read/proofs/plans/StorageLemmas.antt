-- The plan at a path: there is at most one, and that at the empty path is the file's.
use Rattle.std.proofs.Common.{◌≡◌, ℕ, suc, ◌+◌, ◌<◌, Bool, true, false, cond, eqb, ◌&&◌, List, [], ◌∷◌, ◌++◌, length, get_or, Option, Some, None, MatchOption, inl, inr, sym, ◌∙◌, ap, subst, arith, refl}
use Rattle.std.proofs.lemmas.Option.{same_Some}
use Rattle.std.proofs.lemmas.Bool.{cases_Bool, eqb-true}
use Rattle.std.proofs.lemmas.Map.Views.{tells_apart}
use Rattle.std.specs.BTreeMap.{is_at}
use Rattle.msi_container_format.specs.Names.{name_cmp}
use Rattle.msi_container_format.proofs.NamesLemmas.{exact_names}
use Rattle.msi_container_format.specs.declared.contents.Contents.{Contents}
use Rattle.msi_container_format.specs.Chains.{AreBelow, AreDistinct}
use Rattle.msi_container_format.specs.Format.{MAX_REGULAR_SECTOR}
use Rattle.msi_container_format.specs.Trees.{Tree, members}
use Rattle.msi_container_format.specs.Container.{Plan, IsPlan, Holds, fat_of, kind, name, child, IsDirectoryTree, left, right, entry_count, sectors_used, sectors_of_streams, stream_entries}
use Rattle.msi_container_format.proofs.PlanOnceLemmas.{chain_once, whole_once, tree_once, chains_once, same_plan}
use Rattle.msi_container_tables.specs.Paths.{is_storage_named, storage_named, IsStorageTree, Leads, IsPath}
use Rattle.msi_container_read.specs.Storages.{HasDirectory, IsMissing, IsPlanAt, contents_at, HoldsAt}
use Rattle.msi_container_tables.specs.Reading.{AreOfKinds, AreNamed}
use Rattle.msi_container_tables.proofs.chains.ClaimedLemmas.{below_front, below_back, distinct_back}

-- WHAT LIES IN A STORAGE

-- the entries that its child link leads to, of the two kinds, with names of their own
pub lies_in : (bytes directory : List ℕ) (storage top : ℕ) (tree : Tree) (used entries kinded named : List ℕ)
    → top ≡ child bytes directory storage
    → IsDirectoryTree bytes directory top tree
    → members tree ≡ entries
    → AreDistinct (used ++ entries)
    → kinded ≡ entries
    → AreOfKinds bytes directory kinded
    → named ≡ entries
    → AreNamed bytes directory named
    → IsStorageTree bytes directory storage tree
lies_in bytes directory storage top tree used entries kinded named t spelled same distinct k kinds n names =
    let of_kinds : AreOfKinds bytes directory (members tree) = rw same (rw k at kinds) in
    let are_named : AreNamed bytes directory (members tree) = rw same (rw n at names) in
    record {
      spelled = rw t at spelled;
      once = rw same (distinct_back used entries distinct);
      entries = λ i l. record { kinds = of_kinds i l; named = are_named.named i l };
      names = are_named.own;
    }

-- AT MOST ONE

pub storage_tree_once : (bytes directory : List ℕ) (storage : ℕ) (t u : Tree) → IsStorageTree bytes directory storage t → IsStorageTree bytes directory storage u → t ≡ u
storage_tree_once bytes directory storage t u h k = tree_once (left bytes directory) (right bytes directory) (entry_count bytes directory) _ t u h.spelled k.spelled

abbrev pub Onward : (bytes directory : List ℕ) → List (List ℕ) → Option ℕ → Option ℕ → Type 0
Onward bytes directory path next found = MatchOption next (found ≡ None) (λ storage. Leads bytes directory path storage found)

-- a path leads to one storage, or to none
pub leads_once : (bytes directory : List ℕ) (path : List (List ℕ)) (storage : ℕ) (a b : Option ℕ) → Leads bytes directory path storage a → Leads bytes directory path storage b → a ≡ b
leads_once bytes directory [] storage a b h k = h ∙ sym k
leads_once bytes directory (q ∷ path) storage a b (t, h, m) (u, k, n) =
    let same : u ≡ t = storage_tree_once bytes directory storage u t k h in
    on (λ x m n. leads_once bytes directory path x a b m n) (storage_named bytes directory q (members t)) m (subst (λ x. Onward bytes directory path (storage_named bytes directory q (members x)) b) same n)
  where
    on : ((x : ℕ) → Leads bytes directory path x a → Leads bytes directory path x b → a ≡ b) → (next : Option ℕ) → Onward bytes directory path next a → Onward bytes directory path next b → a ≡ b
    on f None m n = m ∙ sym n
    on f (Some x) m n = f x m n

-- the numbers of sectors that are in use are regular
abbrev AreRegular : List ℕ → Type 0
AreRegular = AreBelow (MAX_REGULAR_SECTOR + 1)

directory_regular : {path : List (List ℕ)} {storage : ℕ} (bytes : List ℕ) (p : Plan) → IsPlanAt bytes path storage p → AreRegular p.directory × AreRegular p.mini_fat
directory_regular bytes p h =
    let limit = MAX_REGULAR_SECTOR + 1 in
    let all : AreRegular (sectors_used bytes p) = λ i l. omega (arith, (h.sectors i l).0) in
    let start = p.difat ++ p.fat ++ p.directory in
    let tables = below_front limit (start ++ p.mini_fat) p.mini_stream (below_front limit (start ++ p.mini_fat ++ p.mini_stream) (sectors_of_streams bytes p) all) in
    (below_back limit (p.difat ++ p.fat) p.directory (below_front limit start p.mini_fat tables), below_back limit start p.mini_fat tables)

mini_fat_once : {path other : List (List ℕ)} {storage second : ℕ} (bytes : List ℕ) (p q : Plan) → IsPlanAt bytes path storage p → IsPlanAt bytes other second q → p.fat ≡ q.fat → p.mini_fat ≡ q.mini_fat
mini_fat_once bytes p q h k fat =
    let one = (directory_regular bytes p h).1 in
    let two = (directory_regular bytes q k).1 in
    elim h.mini_fat [
      | inl a ↦ elim k.mini_fat [
        | inl b ↦ whole_once _ _ _ _ a.1 (rw (← fat) at b.1) (λ i l. omega (arith, one i l)) (λ i l. omega (arith, two i l))
        | inr b ↦ absurd (omega (arith, a.0, b.0))
      ]
      | inr a ↦ elim k.mini_fat [ inl b ↦ absurd (omega (arith, a.0, b.0)) | inr b ↦ a.1 ∙ sym b.1 ]
    ]

pub plan_at_once : (bytes : List ℕ) (path : List (List ℕ)) (s t : ℕ) (p q : Plan) → IsPlanAt bytes path s p → IsPlanAt bytes path t q → (s ≡ t) × (p ≡ q)
plan_at_once bytes path s t p q h k =
    let one = (directory_regular bytes p h).0 in
    let two = (directory_regular bytes q k).0 in
    let difat = chain_once _ _ _ p.difat q.difat h.difat k.difat in
    let fat : p.fat ≡ q.fat = h.fat ∙ sym (rw (← difat) at k.fat) in
    let directory : p.directory ≡ q.directory = whole_once _ _ _ _ h.directory (rw (← fat) at k.directory) (λ i l. omega (arith, one i l)) (λ i l. omega (arith, two i l)) in
    let reached : IsPath bytes p.directory path (Some t) = rw (← directory) at k.reached in
    let storage : s ≡ t = same_Some s t (leads_once bytes p.directory path 0 (Some s) (Some t) h.reached.leads reached.leads) in
    let lies : IsStorageTree bytes p.directory s q.tree = rw (← directory, ← storage) at k.listing in
    let tree : p.tree ≡ q.tree = storage_tree_once bytes p.directory s p.tree q.tree h.listing lies in
    let mini_fat = mini_fat_once bytes p q h k fat in
    let mini_stream : p.mini_stream ≡ q.mini_stream = chain_once _ _ _ p.mini_stream q.mini_stream h.mini_stream (rw (← fat, ← directory) at k.mini_stream) in
    let chains : p.chains ≡ q.chains = chains_once bytes p.fat p.mini_fat p.directory (stream_entries bytes p) p.chains q.chains h.streams (rw (← fat, ← directory, ← mini_fat, ← tree) at k.streams) in
    (storage, same_plan p q difat fat directory mini_fat mini_stream tree chains)

pub held_at_once : (bytes : List ℕ) (path : List (List ℕ)) (a b : Contents) → HoldsAt bytes path a → HoldsAt bytes path b → a ≡ b
held_at_once bytes path a b (s, p, h, e) (t, q, k, f) =
    let same = plan_at_once bytes path s t p q h k in
    e ∙ ap (λ x. contents_at bytes x p) same.0 ∙ ap (contents_at bytes t) same.1 ∙ sym f

-- a directory that can be read is the only one
pub directory_once : (bytes difat other directory second : List ℕ) → HasDirectory bytes difat directory → HasDirectory bytes other second → directory ≡ second
directory_once bytes difat other directory second h k =
    let e : difat ≡ other = chain_once _ _ _ difat other h.difats k.difats in
    let limit = MAX_REGULAR_SECTOR + 1 in
    let one : AreRegular directory = below_back limit (difat ++ fat_of bytes difat) directory (λ i l. omega (arith, (h.sectors i l).0)) in
    let two : AreRegular second = below_back limit (other ++ fat_of bytes other) second (λ i l. omega (arith, (k.sectors i l).0)) in
    whole_once _ _ _ _ h.chain (rw (← e) at k.chain) (λ i l. omega (arith, one i l)) (λ i l. omega (arith, two i l))

-- what is held isn't missing
pub held_not_missing : (bytes : List ℕ) (path : List (List ℕ)) (contents : Contents) → HoldsAt bytes path contents → IsMissing bytes path → ⊥
held_not_missing bytes path contents (s, p, h, e) (difat, directory, k, lost) =
    let d : p.difat ≡ difat = chain_once _ _ _ p.difat difat h.difat k.difats in
    let fat : p.fat ≡ fat_of bytes difat = h.fat ∙ ap (fat_of bytes) d in
    let one = (directory_regular bytes p h).0 in
    let two : AreRegular directory = below_back (MAX_REGULAR_SECTOR + 1) (difat ++ fat_of bytes difat) directory (λ i l. omega (arith, (k.sectors i l).0)) in
    let same : p.directory ≡ directory = whole_once _ _ _ _ h.directory (rw (← fat) at k.chain) (λ i l. omega (arith, one i l)) (λ i l. omega (arith, two i l)) in
    let nowhere : IsPath bytes p.directory path None = rw (← same) at lost in
    absurd (told (leads_once bytes p.directory path 0 (Some s) None h.reached.leads nowhere.leads))
  where
    told : ◌≡◌ {A = Option ℕ} (Some s) None → ⊥
    told e = cc

-- the storage of a name is one of the entries
both_parts : (a b : Bool) → (a && b) ≡ true → (a ≡ true) × (b ≡ true)
both_parts true true h = (refl, refl)
both_parts true false h = absurd cc
both_parts false b h = absurd cc

pub found_named : (bytes directory q ks : List ℕ) (k : ℕ) → storage_named bytes directory q ks ≡ Some k → ((i : ℕ) × (i < length ks) × (get_or ks i 0 ≡ k)) × (kind bytes directory k ≡ 1) × (name bytes directory k ≡ q)
found_named bytes directory q [] k h = absurd cc
found_named bytes directory q (x ∷ ks) k h =
    elim (cases_Bool (is_storage_named bytes directory q x)) [
      | inl e ↦
          let same : x ≡ k = same_Some x k (sym (ap (λ b. cond b (Some x) (storage_named bytes directory q ks)) e) ∙ h) in
          let both = both_parts (eqb (kind bytes directory x) 1) (is_at (name_cmp q) (name bytes directory x)) e in
          let named : q ≡ name bytes directory x = tells_apart exact_names q (name bytes directory x) both.1 in
          ((0, omega arith, same), sym (ap (kind bytes directory) same) ∙ eqb-true _ _ both.0, sym (ap (name bytes directory) same) ∙ sym named)
      | inr e ↦
          let rest = found_named bytes directory q ks k (sym (ap (λ b. cond b (Some x) (storage_named bytes directory q ks)) e) ∙ h) in
          ((suc rest.0.0, omega (arith, rest.0.1), rest.0.2), rest.1, rest.2)
    ]

-- THE ROOT

pub at_root : (bytes : List ℕ) (p : Plan) → IsPlan bytes p → IsPlanAt bytes [] 0 p
at_root bytes p h = record {
  header = h.header;
  difat = h.difat;
  fat = h.fat;
  directory = h.directory;
  reached = record { root = h.listing.root; leads = refl };
  listing = record { spelled = h.listing.spelled; once = h.listing.once; entries = h.listing.entries; names = h.listing.names };
  mini_fat = h.mini_fat;
  mini_stream = h.mini_stream;
  streams = h.streams;
  sectors = h.sectors;
  distinct = h.distinct;
  mini_sectors = h.mini_sectors;
  mini_distinct = h.mini_distinct;
}

pub root_is : (bytes : List ℕ) (storage : ℕ) (p : Plan) → IsPlanAt bytes [] storage p → storage ≡ 0
root_is bytes storage p h = same_Some storage 0 h.reached.leads

pub of_root : (bytes : List ℕ) (storage : ℕ) (p : Plan) → IsPlanAt bytes [] storage p → IsPlan bytes p
of_root bytes storage p h =
    let lies : IsStorageTree bytes p.directory 0 p.tree = rw (root_is bytes storage p h) at h.listing in
    record {
      header = h.header;
      difat = h.difat;
      fat = h.fat;
      directory = h.directory;
      listing = record { root = h.reached.root; spelled = lies.spelled; once = lies.once; entries = lies.entries; names = lies.names };
      mini_fat = h.mini_fat;
      mini_stream = h.mini_stream;
      streams = h.streams;
      sectors = h.sectors;
      distinct = h.distinct;
      mini_sectors = h.mini_sectors;
      mini_distinct = h.mini_distinct;
    }

pub held_at_root : (bytes : List ℕ) (contents : Contents) → Holds bytes contents → HoldsAt bytes [] contents
held_at_root bytes contents (p, h, e) = (0, p, at_root bytes p h, e)

pub held_of_root : (bytes : List ℕ) (contents : Contents) → HoldsAt bytes [] contents → Holds bytes contents
held_of_root bytes contents (storage, p, h, e) =
    (p, of_root bytes storage p h, e ∙ ap (λ k. contents_at bytes k p) (root_is bytes storage p h))

-- the root is never missing
pub root_is_there : (bytes : List ℕ) → IsMissing bytes [] → ⊥
root_is_there bytes (difat, directory, h, lost) = absurd (none lost.leads)
  where
    none : ◌≡◌ {A = Option ℕ} None (Some 0) → ⊥
    none e = cc
