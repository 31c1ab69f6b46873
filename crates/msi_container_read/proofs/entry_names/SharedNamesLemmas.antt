-- Names of storages and of streams: each has its own exactly where no two storages, no two streams, and no storage and stream share one.
use Rattle.std.proofs.Common.{◌≡◌, ◌≢◌, ℕ, zero, suc, ◌<◌, Bool, true, false, cond, eqb, List, [], ◌∷◌, length, get_or, filter, ◌⊎◌, inl, inr, sym, ap, arith, refl, Result, Err}
use Rattle.std.proofs.lemmas.Bool.{eq-eqb, eqb-true, false≢true}
use Rattle.msi_base.specs.declared.errors.ErrorKind.{ErrorKind}
use Rattle.msi_base.specs.declared.errors.ErrorKind.TheVariants.{InvalidData}
use Rattle.msi_container_format.specs.Trees.{Tree, members}
use Rattle.msi_container_format.specs.Container.{kind, name, HasName, AreEntries, HaveOwnNames, Plan, IsPlan, stream_entries, streams_among}
use Rattle.msi_container_format.proofs.PlanOnceLemmas.{Each}
use Rattle.msi_container_tables.specs.Reading.{AreOfKinds, IsNamelessListing, HaveNamesApart, storages_among}
use Rattle.msi_container_tables.specs.Paths.{IsStorageTree}
use Rattle.msi_container_read.specs.Storages.{IsPlanAt}
use Rattle.msi_container_tables.proofs.parts.ListingLemmas.{Apart, each_rest, each_more, apart_more, filter_each, filter_apart}

-- each of the first is told from each of the second
abbrev pub Cross : (ℕ → List ℕ) → List ℕ → List ℕ → Type 0
Cross f xs ys = (i j : ℕ) → i < length xs → j < length ys → f (get_or xs i 0) ≢ f (get_or ys j 0)

module _ (f : ℕ → List ℕ) (p q : ℕ → Bool) where
  -- what holds of one more number and of the rest, in either part
  parted : (P : ℕ → Type 0) (x : ℕ) (xs ys : List ℕ) (b d : Bool)
      → (b ≡ true) ⊎ (d ≡ true)
      → Each P (cond b (x ∷ xs) xs)
      → Each P (cond d (x ∷ ys) ys)
      → P x × Each P xs × Each P ys
  parted P x xs ys true true k a c = (a 0 (omega arith), each_rest P x xs a, each_rest P x ys c)
  parted P x xs ys true false k a c = (a 0 (omega arith), each_rest P x xs a, c)
  parted P x xs ys false true k a c = (c 0 (omega arith), a, each_rest P x ys c)
  parted P x xs ys false false k a c = elim k [ inl e ↦ absurd (false≢true e) | inr e ↦ absurd (false≢true e) ]

  -- what holds of both parts holds of all
  pub each_both : (P : ℕ → Type 0) (xs : List ℕ) → Each (λ x. (p x ≡ true) ⊎ (q x ≡ true)) xs → Each P (filter p xs) → Each P (filter q xs) → Each P xs
  each_both P [] k a c = λ i l. absurd (omega arith)
  each_both P (x ∷ xs) k a c =
      let both = parted P x (filter p xs) (filter q xs) (p x) (q x) (k 0 (omega arith)) a c in
      each_more P x xs both.0 (each_both P xs (each_rest (λ x. (p x ≡ true) ⊎ (q x ≡ true)) x xs k) both.1 both.2)

  -- one more number, told from those of either part
  told : (x : ℕ) (xs ys : List ℕ) (b d : Bool)
      → (b ≡ true) ⊎ (d ≡ true)
      → Apart f (cond b (x ∷ xs) xs)
      → Apart f (cond d (x ∷ ys) ys)
      → Cross f (cond b (x ∷ xs) xs) (cond d (x ∷ ys) ys)
      → Each (λ y. f x ≢ f y) xs × Each (λ y. f x ≢ f y) ys × Apart f xs × Apart f ys × Cross f xs ys
  told x xs ys true true k a c o = absurd (o 0 0 (omega arith) (omega arith) refl)
  told x xs ys true false k a c o = (
    λ j l. a 0 (suc j) (omega arith) (omega arith),
    λ j l. o 0 j (omega arith) l,
    λ i j l h. a (suc i) (suc j) (omega arith) (omega arith),
    c,
    λ i j l h. o (suc i) j (omega arith) h,
  )
  told x xs ys false true k a c o = (
    λ j l e. o j 0 l (omega arith) (sym e),
    λ j l. c 0 (suc j) (omega arith) (omega arith),
    a,
    λ i j l h. c (suc i) (suc j) (omega arith) (omega arith),
    λ i j l h. o i (suc j) l (omega arith),
  )
  told x xs ys false false k a c o = elim k [ inl e ↦ absurd (false≢true e) | inr e ↦ absurd (false≢true e) ]

  -- names that are told apart in both parts and across them are told apart in all
  pub apart_both : (xs : List ℕ) → Each (λ x. (p x ≡ true) ⊎ (q x ≡ true)) xs → Apart f (filter p xs) → Apart f (filter q xs) → Cross f (filter p xs) (filter q xs) → Apart f xs
  apart_both [] k a c o = λ i j l h. absurd (omega arith)
  apart_both (x ∷ xs) k a c o =
      let rest = each_rest (λ x. (p x ≡ true) ⊎ (q x ≡ true)) x xs k in
      let parts = told x (filter p xs) (filter q xs) (p x) (q x) (k 0 (omega arith)) a c o in
      apart_more f x xs (each_both (λ y. f x ≢ f y) xs rest parts.0 parts.1) (apart_both xs rest parts.2 parts.3 parts.4)

  crossed : (x : ℕ) (xs ys : List ℕ) (b d : Bool)
      → (b ≡ true → d ≡ true → ⊥)
      → Each (λ y. f x ≢ f y) xs
      → Each (λ y. f x ≢ f y) ys
      → Cross f xs ys
      → Cross f (cond b (x ∷ xs) xs) (cond d (x ∷ ys) ys)
  crossed x xs ys true true n a c o i j l h = absurd (n refl refl)
  crossed x xs ys true false n a c o zero j l h = c j h
  crossed x xs ys true false n a c o (suc i) j l h = o i j (omega arith) h
  crossed x xs ys false true n a c o i zero l h = λ e. a i l (sym e)
  crossed x xs ys false true n a c o i (suc j) l h = o i j l (omega arith)
  crossed x xs ys false false n a c o i j l h = o i j l h

  -- where all are told apart, so are two parts that share nothing
  pub apart_across : (xs : List ℕ) → ((x : ℕ) → p x ≡ true → q x ≡ true → ⊥) → Apart f xs → Cross f (filter p xs) (filter q xs)
  apart_across [] n a = λ i j l h. absurd (omega arith)
  apart_across (x ∷ xs) n a =
      let here : Each (λ y. f x ≢ f y) xs = λ j l. a 0 (suc j) (omega arith) (omega arith) in
      let rest : Apart f xs = λ i j l h. a (suc i) (suc j) (omega arith) (omega arith) in
      crossed x (filter p xs) (filter q xs) (p x) (q x) (n x) (filter_each (λ y. f x ≢ f y) p xs here) (filter_each (λ y. f x ≢ f y) q xs here) (apart_across xs n rest)

is_kind : (bytes directory : List ℕ) (a b k : ℕ) → (kind bytes directory k ≡ a) ⊎ (kind bytes directory k ≡ b) → (eqb (kind bytes directory k) a ≡ true) ⊎ (eqb (kind bytes directory k) b ≡ true)
is_kind bytes directory a b k h = elim h [ inl e ↦ inl (eq-eqb _ _ e) | inr e ↦ inr (eq-eqb _ _ e) ]

-- entries of the two kinds whose names are told apart are entries with names of their own
pub all_named : (bytes directory ks : List ℕ) → AreOfKinds bytes directory ks → HaveNamesApart bytes directory (storages_among bytes directory ks) (streams_among bytes directory ks)
    → AreEntries bytes directory ks × HaveOwnNames bytes directory ks
all_named bytes directory ks kinds h =
    let p : ℕ → Bool = λ k. eqb (kind bytes directory k) 1 in
    let q : ℕ → Bool = λ k. eqb (kind bytes directory k) 2 in
    let each : Each (λ x. (p x ≡ true) ⊎ (q x ≡ true)) ks = λ i l. is_kind bytes directory 1 2 (get_or ks i 0) (kinds i l) in
    let named = each_both (name bytes directory) p q (HasName bytes directory) ks each h.storages_named.named h.streams_named.named in (
      λ i l. record { kinds = kinds i l; named = named i l },
      apart_both (name bytes directory) p q ks each h.storages_named.own h.streams_named.own h.apart,
    )

-- and the other way round
pub parts_named : (bytes directory ks : List ℕ) → AreEntries bytes directory ks → HaveOwnNames bytes directory ks
    → HaveNamesApart bytes directory (storages_among bytes directory ks) (streams_among bytes directory ks)
parts_named bytes directory ks entries own =
    let p : ℕ → Bool = λ k. eqb (kind bytes directory k) 1 in
    let q : ℕ → Bool = λ k. eqb (kind bytes directory k) 2 in
    let named : Each (HasName bytes directory) ks = λ i l. (entries i l).named in
    record {
      storages_named = record { named = filter_each (HasName bytes directory) p ks named; own = filter_apart (name bytes directory) p ks own };
      streams_named = record { named = filter_each (HasName bytes directory) q ks named; own = filter_apart (name bytes directory) q ks own };
      apart = apart_across (name bytes directory) p q ks (λ x a b. omega (arith, eqb-true _ _ a, eqb-true _ _ b)) own;
    }

-- what lies in a storage but for the names, and with them
pub nameless : (bytes directory : List ℕ) (storage : ℕ) (tree : Tree) → IsStorageTree bytes directory storage tree → IsNamelessListing bytes directory storage tree
nameless bytes directory storage tree h = record { spelled = h.spelled; once = h.once; kinds = λ i l. (h.entries i l).kinds }

pub with_names : (bytes directory : List ℕ) (storage : ℕ) (tree : Tree)
    → IsNamelessListing bytes directory storage tree
    → HaveNamesApart bytes directory (storages_among bytes directory (members tree)) (streams_among bytes directory (members tree))
    → IsStorageTree bytes directory storage tree
with_names bytes directory storage tree h names =
    let all = all_named bytes directory (members tree) h.kinds names in
    record { spelled = h.spelled; once = h.once; entries = all.0; names = all.1 }

-- the names of a plan's storages and streams
pub plan_names : (bytes : List ℕ) (p : Plan) → IsPlan bytes p → HaveNamesApart bytes p.directory (storages_among bytes p.directory (members p.tree)) (stream_entries bytes p)
plan_names bytes p h = parts_named bytes p.directory (members p.tree) h.listing.entries h.listing.names

pub plan_at_names : {path : List (List ℕ)} {storage : ℕ} (bytes : List ℕ) (p : Plan) → IsPlanAt bytes path storage p → HaveNamesApart bytes p.directory (storages_among bytes p.directory (members p.tree)) (stream_entries bytes p)
plan_at_names bytes p h = parts_named bytes p.directory (members p.tree) h.listing.entries h.listing.names

-- an error for the bytes is one of what was called
pub refused : {X Y : Type 0} (r : Result X ErrorKind) (e f : ErrorKind) → r ≡ Err e → e ≡ f → r ≡ Err InvalidData → ◌≡◌ {A = Result Y ErrorKind} (Err f) (Err InvalidData)
refused r e f a b h = let same : f ≡ InvalidData = cc in ap Err same
