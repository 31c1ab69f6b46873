-- All storages, found by looking into one after another.
use Rattle.std.proofs.Common.{◌≡◌, ℕ, zero, suc, ◌+◌, ◌-◌, ◌<◌, ◌≤◌, eqb, List, [], ◌∷◌, ◌++◌, length, get_or, drop, map, replicate, inl, inr, sym, ◌∙◌, ap, subst, arith, refl, append_assoc, append-nil, Vec, Global, Result, Ok, Err, IfOk}
use Rattle.std.specs.Prelude.{IsErr}
use Rattle.msi_base.specs.declared.errors.ErrorKind.{ErrorKind}
use Rattle.msi_base.specs.declared.errors.ErrorKind.TheVariants.{OutOfMemory}
use Rattle.msi_container_tables.specs.Outcomes.{ViewIsUnlessMemory}
use Rattle.msi_container_tables.proofs.parts.PassedLemmas.{kind_of}
use Rattle.std.specs.List.{flat_map, range_with_len}
use Rattle.std.proofs.lemmas.Grind.{flat_map-append}
use Rattle.std.proofs.lemmas.Bool.{cases_lt}
use Rattle.std.proofs.lemmas.List.{map-append, drop_more, drop_all, drop-append-le, length-append, get_or_append_left, get_or-append_right, length-replicate, length-map}
use Rattle.std.proofs.lemmas.List.FromFn.{map-range_with_len_more}
use Rattle.msi_base.proofs.ListLemmas.{length-filter-le}
use Rattle.msi_container_format.specs.Chains.{AreBelow, AreDistinct}
use Rattle.msi_container_format.specs.Trees.{Tree, members}
use Rattle.msi_container_format.specs.Container.{HasName, left, right, child, entry_count, kind}
use Rattle.msi_container_format.proofs.PlanOnceLemmas.{Each}
use Rattle.msi_container_tables.specs.Claims.{CanClaim}
use Rattle.msi_container_tables.specs.Reading.{storages_among}
use Rattle.msi_container_tables.specs.Paths.{IsStorageTree}
use Rattle.msi_container_read.specs.StorageLists.{LieInTurn, numbered, homes, homes_from, stream_count, storage_count, storages_of, HasStorages}
use Rattle.msi_container_read.specs.declared.storages.Storage.{Storage}
use Rattle.msi_container_tables.proofs.parts.ListingLemmas.{filter_each}
use Rattle.msi_container_tables.proofs.chains.ClaimedLemmas.{distinct_front}
use Rattle.msi_container_read.proofs.plans.StorageLemmas.{storage_tree_once, directory_once}
use Rattle.msi_container_tables.proofs.parts.TreeLemmas.{members_below}

-- one more storage is listed
pub next_listed : (at : ℕ → Storage) (n : ℕ) (list new : List Storage) (x : Storage)
    → 0 < n
    → list ≡ map (λ i. at (i + 1)) (range_with_len 0 (n - 1))
    → x ≡ at n
    → new ≡ list ++ x ∷ []
    → new ≡ map (λ i. at (i + 1)) (range_with_len 0 (n + 1 - 1))
next_listed at n list new x some before is pushed =
    let f : ℕ → Storage = λ i. at (i + 1) in
    let e : n - 1 + 1 ≡ n = omega arith in
    let g : n - 1 + 1 ≡ n + 1 - 1 = omega arith in
    pushed
    ∙ ap (λ xs. xs ++ x ∷ []) before
    ∙ ap (λ y. map f (range_with_len 0 (n - 1)) ++ y ∷ []) (is ∙ sym (ap at e))
    ∙ sym (map-range_with_len_more f 0 (n - 1) (n - 1) (omega arith))
    ∙ ap (λ k. map f (range_with_len 0 k)) g

-- the list that was made is the one that there is
pub list_viewed : (r : Result (Vec Storage Global) ErrorKind) (made list : List Storage)
    → IfOk r (λ v. v.items ≡ made)
    → (IsErr r → ◌≡◌ {A = Result (Vec Storage Global) ErrorKind} r (Err OutOfMemory))
    → made ≡ list
    → ViewIsUnlessMemory (λ v. v.items) r list
list_viewed (Ok v) made list h m e = h ∙ e
list_viewed (Err k) made list h m e = kind_of k OutOfMemory (m refl)

-- the root alone is below any count of entries
pub below_root : (count : ℕ) → 0 < count → AreBelow count (0 ∷ [])
below_root count h zero l = h
below_root count h (suc i) l = absurd (omega arith)

-- WHAT LIES IN SOME STORAGES

module _ (bytes directory : List ℕ) where
  abbrev pub lying : Tree → List ℕ
  lying t = storages_among bytes directory (members t)

  joined : {X : Type 0} (f : Tree → List X) (ts : List Tree) (t : Tree) → flat_map f (ts ++ t ∷ []) ≡ flat_map f ts ++ f t
  joined f ts t = flat_map-append f ts (t ∷ []) ∙ ap (λ ys. flat_map f ts ++ ys) (append-nil (f t))

  homes_more : (n : ℕ) (ts : List Tree) (t : Tree)
      → homes_from bytes directory n (ts ++ t ∷ []) ≡ homes_from bytes directory n ts ++ replicate (storage_count bytes directory t) (n + length ts)
  homes_more n [] t =
      let c = storage_count bytes directory t in
      let e : n ≡ n + 0 = omega arith in
      append-nil (replicate c n) ∙ ap (λ m. replicate c m) e
  homes_more n (u ∷ ts) t =
      let c = storage_count bytes directory t in
      let first = replicate (storage_count bytes directory u) n in
      let e : n + 1 + length ts ≡ n + length (u ∷ ts) = omega arith in
      ap (λ xs. first ++ xs) (homes_more (n + 1) ts t)
      ∙ sym (append_assoc first (homes_from bytes directory (n + 1) ts) (replicate c (n + 1 + length ts)))
      ∙ ap (λ m. (first ++ homes_from bytes directory (n + 1) ts) ++ replicate c m) e

  homes_long : (n : ℕ) (ts : List Tree) → length (homes_from bytes directory n ts) ≡ length (flat_map lying ts)
  homes_long n [] = refl
  homes_long n (t ∷ ts) =
      omega (arith, homes_long (n + 1) ts, length-append (replicate (storage_count bytes directory t) n) (homes_from bytes directory (n + 1) ts), length-replicate (storage_count bytes directory t) n, length-append (lying t) (flat_map lying ts))

  -- TURNS

  -- whatever is still to be looked into, with these before it it is all
  abbrev pub Completes : List Tree → List ℕ → Type 0
  Completes ts ks = (rest : List Tree) → LieInTurn bytes directory ks rest → LieInTurn bytes directory (0 ∷ []) (ts ++ rest)

  -- and all begins with these
  abbrev pub Remains : List Tree → List ℕ → Type 0
  Remains ts ks = (us : List Tree) → LieInTurn bytes directory (0 ∷ []) us → (rest : List Tree) × (us ≡ ts ++ rest) × LieInTurn bytes directory ks rest

  completes_more : (ts : List Tree) (k : ℕ) (ks : List ℕ) (t : Tree)
      → IsStorageTree bytes directory k t
      → Completes ts (k ∷ ks)
      → Completes (ts ++ t ∷ []) (ks ++ lying t)
  completes_more ts k ks t lies whole rest h =
      subst (λ us. LieInTurn bytes directory (0 ∷ []) us) (sym (append_assoc ts (t ∷ []) rest)) (whole (t ∷ rest) (lies, h))

  next_tree : (k : ℕ) (ks : List ℕ) (rest : List Tree) → LieInTurn bytes directory (k ∷ ks) rest
      → (t : Tree) × (more : List Tree) × (rest ≡ t ∷ more) × IsStorageTree bytes directory k t × LieInTurn bytes directory (ks ++ lying t) more
  next_tree k ks [] h = absurd h
  next_tree k ks (t ∷ more) h = (t, more, refl, h.0, h.1)

  remains_more : (ts : List Tree) (k : ℕ) (ks : List ℕ) (t : Tree)
      → IsStorageTree bytes directory k t
      → Remains ts (k ∷ ks)
      → Remains (ts ++ t ∷ []) (ks ++ lying t)
  remains_more ts k ks t lies only us h =
      let p = only us h in
      let q = next_tree k ks p.0 p.2 in
      let same : q.0 ≡ t = storage_tree_once bytes directory k q.0 t q.3 lies in
      let whole : us ≡ ts ++ t ∷ q.1 = p.1 ∙ ap (λ xs. ts ++ xs) (q.2 ∙ ap (λ x. x ∷ q.1) same) in
      (q.1, whole ∙ sym (append_assoc ts (t ∷ []) q.1), subst (λ x. LieInTurn bytes directory (ks ++ lying x) q.1) same q.4)

  -- as many trees as storages
  turns_long : (ks : List ℕ) (ts : List Tree) → LieInTurn bytes directory ks ts → length ts ≡ length ks + length (flat_map lying ts)
  turns_long [] ts h = rw h refl
  turns_long (k ∷ ks) [] h = absurd h
  turns_long (k ∷ ks) (t ∷ ts) h =
      omega (arith, turns_long (ks ++ lying t) ts h.1, length-append ks (lying t), length-append (lying t) (flat_map lying ts))

  each_join : (P : ℕ → Type 0) (xs ys : List ℕ) → Each P xs → Each P ys → Each P (xs ++ ys)
  each_join P xs ys a b i l =
      elim (cases_lt i (length xs)) [
        | inl h ↦ subst P (sym (get_or_append_left xs ys 0 i h)) (a i h)
        | inr h ↦ subst P (sym (get_or-append_right xs ys (length xs) i 0 refl h)) (b (i - length xs) (omega (arith, length-append xs ys)))
      ]

  -- each storage that lies in another has a well-formed name
  turns_named : (ks : List ℕ) (ts : List Tree) → LieInTurn bytes directory ks ts → Each (HasName bytes directory) (flat_map lying ts)
  turns_named [] ts h = rw h (λ i l. absurd (omega arith))
  turns_named (k ∷ ks) [] h = absurd h
  turns_named (k ∷ ks) (t ∷ ts) h =
      each_join (HasName bytes directory) (lying t) (flat_map lying ts)
      (filter_each (HasName bytes directory) (λ x. eqb (kind bytes directory x) 1) (members t) (λ i l. (h.0.entries i l).named))
      (turns_named (ks ++ lying t) ts h.1)

  -- no more storages than entries
  few_storages : (ts : List Tree) → length (flat_map lying ts) ≤ length (flat_map members ts)
  few_storages [] = omega arith
  few_storages (t ∷ ts) =
      omega (arith, few_storages ts, length-filter-le (λ x. eqb (kind bytes directory x) 1) (members t), length-append (lying t) (flat_map lying ts), length-append (members t) (flat_map members ts))

  -- THE LOOP

  -- what was found by looking into the first storages
  pub record IsLooked (ts : List Tree) (entries home streams storages claimed : List ℕ) (number : ℕ) : Type 0 where
    pub found : entries ≡ numbered bytes directory ts
    pub homed : home ≡ homes bytes directory ts
    pub streamed : streams ≡ map (stream_count bytes directory) ts
    pub stored : storages ≡ map (storage_count bytes directory) ts
    pub used : claimed ≡ 0 ∷ flat_map members ts
    pub so_far : number ≡ length ts
    pub whole : Completes ts (drop number entries)
    pub only : Remains ts (drop number entries)

  pub looked_none : (entries home streams storages claimed : List ℕ) → entries ≡ 0 ∷ [] → home ≡ 0 ∷ [] → streams ≡ [] → storages ≡ [] → claimed ≡ 0 ∷ [] → IsLooked [] entries home streams storages claimed 0
  looked_none entries home streams storages claimed a b d e f = record {
    found = a;
    homed = b;
    streamed = d;
    stored = e;
    used = f;
    so_far = refl;
    whole = rw a (λ rest h. h);
    only = rw a (λ us h. (us, refl, h));
  }

  module _ (ts : List Tree) (entries home streams storages claimed : List ℕ) (number : ℕ) (looked : IsLooked ts entries home streams storages claimed number) where
    pub looked_few : length entries ≤ length claimed
    looked_few = rw (looked.found, looked.used) (omega (arith, few_storages ts))

    -- what is left, where there is something
    left_over : number < length entries → drop number entries ≡ get_or entries number 0 ∷ drop (number + 1) entries
    left_over l = drop_more entries number 0 l

    pub looked_more : (t : Tree) (entries' home' streams' storages' claimed' : List ℕ)
        → number < length entries
        → IsStorageTree bytes directory (get_or entries number 0) t
        → claimed' ≡ claimed ++ members t
        → entries' ≡ entries ++ lying t
        → home' ≡ home ++ replicate (storage_count bytes directory t) number
        → streams' ≡ streams ++ stream_count bytes directory t ∷ []
        → storages' ≡ storages ++ storage_count bytes directory t ∷ []
        → IsLooked (ts ++ t ∷ []) entries' home' streams' storages' claimed' (number + 1)
    looked_more t entries' home' streams' storages' claimed' l lies u f h s q =
        let k = get_or entries number 0 in
        let ks = drop (number + 1) entries in
        let from_none : length ts ≡ 0 + length ts = omega arith in
        let rest : drop (number + 1) entries' ≡ ks ++ lying t = ap (drop (number + 1)) f ∙ drop-append-le (number + 1) entries (lying t) (omega arith) in
        record {
          found = f ∙ ap (λ xs. xs ++ lying t) looked.found ∙ ap (λ xs. 0 ∷ xs) (sym (joined lying ts t));
          homed = h ∙ ap (λ m. home ++ replicate (storage_count bytes directory t) m) looked.so_far ∙ ap (λ xs. xs ++ replicate (storage_count bytes directory t) (length ts)) looked.homed
              ∙ ap (λ m. homes bytes directory ts ++ replicate (storage_count bytes directory t) m) from_none
              ∙ ap (λ xs. 0 ∷ xs) (sym (homes_more 0 ts t));
          streamed = s ∙ ap (λ xs. xs ++ stream_count bytes directory t ∷ []) looked.streamed ∙ sym (map-append (stream_count bytes directory) ts (t ∷ []));
          stored = q ∙ ap (λ xs. xs ++ storage_count bytes directory t ∷ []) looked.stored ∙ sym (map-append (storage_count bytes directory) ts (t ∷ []));
          used = u ∙ ap (λ xs. xs ++ members t) looked.used ∙ ap (λ xs. 0 ∷ xs) (sym (joined members ts t));
          so_far = omega (arith, looked.so_far, length-append ts (t ∷ []));
          whole = subst (Completes (ts ++ t ∷ [])) (sym rest) (completes_more ts k ks t lies (subst (Completes ts) (left_over l) looked.whole));
          only = subst (Remains (ts ++ t ∷ [])) (sym rest) (remains_more ts k ks t lies (subst (Remains ts) (left_over l) looked.only));
        }

    -- the next tree of all can be claimed
    pub looked_next : (us : List Tree)
        → number < length entries
        → LieInTurn bytes directory (0 ∷ []) us
        → AreDistinct (0 ∷ flat_map members us)
        → (t : Tree) × IsStorageTree bytes directory (get_or entries number 0) t × CanClaim (entry_count bytes directory) claimed (members t)
    looked_next us l h d =
        let p = looked.only us h in
        let q = next_tree (get_or entries number 0) (drop (number + 1) entries) p.0 (subst (λ ks. LieInTurn bytes directory ks p.0) (left_over l) p.2) in
        let t = q.0 in
        let all : 0 ∷ flat_map members us ≡ (claimed ++ members t) ++ flat_map members q.1 =
        ap (λ xs. 0 ∷ flat_map members xs) (p.1 ∙ ap (λ xs. ts ++ xs) q.2)
        ∙ ap (λ xs. 0 ∷ xs) (flat_map-append members ts (t ∷ q.1))
        ∙ ap (λ xs. xs ++ flat_map members (t ∷ q.1)) (sym looked.used)
        ∙ sym (append_assoc claimed (members t) (flat_map members q.1)) in (
          t,
          q.3,
          record {
            below = members_below (left bytes directory) (right bytes directory) (entry_count bytes directory) (child bytes directory (get_or entries number 0)) t q.3.spelled;
            distinct = distinct_front (claimed ++ members t) (flat_map members q.1) (subst AreDistinct all d);
          },
        )

    -- with nothing left these are all, and the only ones
    module _ (ended : length entries ≤ number) where
      none_left : (ks : List ℕ) (n : ℕ) → length ks ≤ n → drop n ks ≡ []
      none_left ks n l = drop_all n ks l

      pub looked_all : LieInTurn bytes directory (0 ∷ []) ts
      looked_all =
          let whole : Completes ts [] = subst (Completes ts) (none_left entries number ended) looked.whole in
          subst (λ us. LieInTurn bytes directory (0 ∷ []) us) (append-nil ts) (whole [] refl)

      pub looked_only : (us : List Tree) → LieInTurn bytes directory (0 ∷ []) us → us ≡ ts
      looked_only us h =
          let only : Remains ts [] = subst (Remains ts) (none_left entries number ended) looked.only in
          let p = only us h in
          p.1 ∙ ap (λ xs. ts ++ xs) p.2 ∙ append-nil ts

      pub looked_long : (length home ≡ length entries) × (length streams ≡ length entries) × (length storages ≡ length entries)
      looked_long =
          let many = turns_long (0 ∷ []) ts looked_all in
          let all : length entries ≡ length ts = omega (arith, many, ap (λ (xs : List ℕ). length xs) looked.found) in (
            omega (arith, ap (λ (xs : List ℕ). length xs) looked.homed, homes_long 0 ts, ap (λ (xs : List ℕ). length xs) looked.found),
            omega (arith, all, ap (λ (xs : List ℕ). length xs) looked.streamed, length-map ts (stream_count bytes directory)),
            omega (arith, all, ap (λ (xs : List ℕ). length xs) looked.stored, length-map ts (storage_count bytes directory)),
          )

      pub looked_named : (i : ℕ) → 0 < i → i < length entries → HasName bytes directory (get_or entries i 0)
      looked_named i some l =
          let e : i ≡ suc (i - 1) = omega arith in
          let P : ℕ → Type 0 = λ n. HasName bytes directory (get_or (numbered bytes directory ts) n 0) in
          rw looked.found (subst P (sym e) (turns_named (0 ∷ []) ts looked_all (i - 1) (omega (arith, ap (λ (xs : List ℕ). length xs) looked.found))))

-- AT MOST ONE

turns_once : (bytes directory ks : List ℕ) (ts us : List Tree) → LieInTurn bytes directory ks ts → LieInTurn bytes directory ks us → ts ≡ us
turns_once bytes directory [] ts us h k = h ∙ sym k
turns_once bytes directory (n ∷ ks) [] us h k = absurd h
turns_once bytes directory (n ∷ ks) (t ∷ ts) [] h k = absurd k
turns_once bytes directory (n ∷ ks) (t ∷ ts) (u ∷ us) h k =
    let same : u ≡ t = storage_tree_once bytes directory n u t k.0 h.0 in
    let rest = turns_once bytes directory (ks ++ storages_among bytes directory (members t)) ts us h.1 (subst (λ x. LieInTurn bytes directory (ks ++ storages_among bytes directory (members x)) us) same k.1) in
    ap (λ x. x ∷ ts) (sym same) ∙ ap (λ xs. u ∷ xs) rest

pub storages_once : (bytes : List ℕ) (a b : List Storage) → HasStorages bytes a → HasStorages bytes b → a ≡ b
storages_once bytes a b (difat, directory, ts, h, all, e) (other, second, us, k, every, f) =
    let same : directory ≡ second = directory_once bytes difat other directory second h k in
    let turns : LieInTurn bytes directory (0 ∷ []) us = rw same every.turns in
    e ∙ ap (storages_of bytes directory) (turns_once bytes directory (0 ∷ []) ts us all.turns turns) ∙ ap (λ d. storages_of bytes d us) same ∙ sym f
