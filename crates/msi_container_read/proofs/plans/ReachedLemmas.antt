-- The storages that are listed are those that a path of names leads to.
use Rattle.std.proofs.Common.{◌≡◌, ◌≢◌, ℕ, zero, suc, ◌+◌, ◌-◌, Bool, true, false, cond, eqb, ◌&&◌, List, [], ◌∷◌, ◌++◌, length, filter, Option, Some, None, inl, inr, sym, ◌∙◌, ap, subst, arith, refl, append_assoc}
use Rattle.std.specs.List.{flat_map}
use Rattle.std.specs.Ordering.{is_eq}
use Rattle.std.specs.BTreeMap.{is_at}
use Rattle.std.proofs.lemmas.Bool.{cases_Bool, cases_lt, eqb-true}
use Rattle.std.proofs.lemmas.Cmp.{tied_itself}
use Rattle.std.proofs.lemmas.List.{length-append, get_or_append_left, get_or-append_right, get_or-append-add}
use Rattle.std.proofs.lemmas.Map.Views.{tells_apart}
use Rattle.std.proofs.lemmas.Option.{same_Some}
use Rattle.msi_container_format.specs.Names.{name_cmp}
use Rattle.msi_container_format.specs.Trees.{Tree, members}
use Rattle.msi_container_format.specs.Container.{kind, name}
use Rattle.msi_container_format.proofs.NamesLemmas.{names_total, exact_names}
use Rattle.msi_container_tables.specs.Paths.{is_storage_named, storage_named, IsStorageTree, Leads}
use Rattle.msi_container_read.specs.StorageLists.{LieInTurn, numbered, IsAmong}
use Rattle.msi_container_tables.proofs.parts.ListingLemmas.{Apart}
use Rattle.msi_container_read.proofs.plans.StorageLemmas.{Onward, storage_tree_once, found_named}
use Rattle.msi_container_read.proofs.plans.StorageListLemmas.{lying}

-- AMONG

among_left : (xs ys : List ℕ) (k : ℕ) → IsAmong xs k → IsAmong (xs ++ ys) k
among_left xs ys k (i, l, e) = (i, omega (arith, l, length-append xs ys), get_or_append_left xs ys 0 i l ∙ e)

among_right : (xs ys : List ℕ) (k : ℕ) → IsAmong ys k → IsAmong (xs ++ ys) k
among_right xs ys k (i, l, e) = (length xs + i, omega (arith, l, length-append xs ys), get_or-append-add xs ys i 0 ∙ e)

among_more : (x : ℕ) (xs : List ℕ) (k : ℕ) → IsAmong xs k → IsAmong (x ∷ xs) k
among_more x xs k (i, l, e) = (suc i, omega (arith, l), e)

among_filter : (p : ℕ → Bool) (xs : List ℕ) (k : ℕ) → p k ≡ true → IsAmong xs k → IsAmong (filter p xs) k
among_filter p [] k h (i, l, e) = absurd (omega (arith, l))
among_filter p (x ∷ xs) k h (zero, l, e) =
    let P : Bool → Type 0 = λ b. IsAmong (cond b (x ∷ filter p xs) (filter p xs)) k in
    subst P (sym (ap p e ∙ h)) (0, omega arith, e)
among_filter p (x ∷ xs) k h (suc i, l, e) =
    let rest = among_filter p xs k h (i, omega (arith, l), e) in
    kept (p x) rest
  where
    kept : (b : Bool) → IsAmong (filter p xs) k → IsAmong (cond b (x ∷ filter p xs) (filter p xs)) k
    kept true r = among_more x (filter p xs) k r
    kept false r = r

among_filtered : (p : ℕ → Bool) (xs : List ℕ) (k : ℕ) → IsAmong (filter p xs) k → IsAmong xs k × (p k ≡ true)
among_filtered p [] k (i, l, e) = absurd (omega (arith, l))
among_filtered p (x ∷ xs) k h =
    elim (cases_Bool (p x)) [
      | inl t ↦ first (subst (λ b. IsAmong (cond b (x ∷ filter p xs) (filter p xs)) k) t h) t (λ r. among_filtered p xs k r)
      | inr f ↦ let rest = among_filtered p xs k (subst (λ b. IsAmong (cond b (x ∷ filter p xs) (filter p xs)) k) f h) in (among_more x xs k rest.0, rest.1)
    ]
  where
    first : IsAmong (x ∷ filter p xs) k → p x ≡ true → (IsAmong (filter p xs) k → IsAmong xs k × (p k ≡ true)) → IsAmong (x ∷ xs) k × (p k ≡ true)
    first (zero, l, e) t f = ((0, omega arith, e), ap p (sym e) ∙ t)
    first (suc i, l, e) t f = let rest = f (i, omega (arith, l), e) in (among_more x xs k rest.0, rest.1)

-- NAMES

module _ (bytes directory : List ℕ) where
  abbrev called : ℕ → List ℕ
  called = name bytes directory

  own_is : (k : ℕ) → kind bytes directory k ≡ 1 → is_storage_named bytes directory (called k) k ≡ true
  own_is k h = both (eqb (kind bytes directory k) 1) (is_at (name_cmp (called k)) (called k)) (ap (λ x. eqb x 1) h) (ap is_eq (tied_itself names_total (called k)))
    where
      both : (a b : Bool) → a ≡ true → b ≡ true → (a && b) ≡ true
      both a b p q = ap (λ x. x && b) p ∙ q

  not_named : (q : List ℕ) (k : ℕ) → q ≢ called k → is_storage_named bytes directory q k ≡ false
  not_named q k n =
      elim (cases_Bool (is_at (name_cmp q) (called k))) [
        | inl t ↦ absurd (n (tells_apart exact_names q (called k) t))
        | inr f ↦ neither (eqb (kind bytes directory k) 1) (is_at (name_cmp q) (called k)) f
      ]
    where
      neither : (a b : Bool) → b ≡ false → (a && b) ≡ false
      neither true b f = f
      neither false b f = refl

  -- among entries with names of their own, a storage is the one of its name
  named_found : (ks : List ℕ) (k : ℕ) → Apart called ks → IsAmong ks k → kind bytes directory k ≡ 1 → storage_named bytes directory (called k) ks ≡ Some k
  named_found [] k a (i, l, e) h = absurd (omega (arith, l))
  named_found (x ∷ ks) k a (zero, l, e) h =
      let is : is_storage_named bytes directory (called k) x ≡ true = ap (is_storage_named bytes directory (called k)) e ∙ own_is k h in
      ap (λ b. cond b (Some x) (storage_named bytes directory (called k) ks)) is ∙ ap Some e
  named_found (x ∷ ks) k a (suc i, l, e) h =
      let other : called k ≢ called x = λ same. a 0 (suc i) (omega arith) (omega (arith, l)) (sym (ap called e ∙ same)) in
      ap (λ b. cond b (Some x) (storage_named bytes directory (called k) ks)) (not_named (called k) x other)
      ∙ named_found ks k (λ i j m w. a (suc i) (suc j) (omega arith) (omega arith)) (i, omega (arith, l), e) h

  -- PATHS

  -- a path goes on by one name
  leads_more : (path : List (List ℕ)) (from k x : ℕ) (q : List ℕ) (t : Tree)
      → Leads bytes directory path from (Some k)
      → IsStorageTree bytes directory k t
      → storage_named bytes directory q (members t) ≡ Some x
      → Leads bytes directory (path ++ q ∷ []) from (Some x)
  leads_more [] from k x q t h lies named =
      let here : k ≡ from = same_Some k from h in
      (t, subst (λ n. IsStorageTree bytes directory n t) here lies, subst (λ o. Onward bytes directory [] o (Some x)) (sym named) refl)
  leads_more (p ∷ path) from k x q t (u, h, m) lies named =
      (u, h, on (λ n r. leads_more path n k x q t r lies named) (storage_named bytes directory p (members u)) m)
    where
      on : ((n : ℕ) → Leads bytes directory path n (Some k) → Leads bytes directory (path ++ q ∷ []) n (Some x)) → (o : Option ℕ) → Onward bytes directory path o (Some k) → Onward bytes directory (path ++ q ∷ []) o (Some x)
      on f None m = absurd (none m)
        where
          none : ◌≡◌ {A = Option ℕ} (Some k) None → ⊥
          none e = cc
      on f (Some n) m = f n m

  abbrev pub Reached : ℕ → Type 0
  Reached k = (path : List (List ℕ)) × Leads bytes directory path 0 (Some k)

  stored_is : (t : Tree) (x : ℕ) → IsAmong (lying bytes directory t) x → IsAmong (members t) x × (kind bytes directory x ≡ 1)
  stored_is t x a = let h = among_filtered (λ k. eqb (kind bytes directory k) 1) (members t) x a in (h.0, eqb-true _ _ h.1)

  all_reached : (ks : List ℕ) (ts : List Tree) → LieInTurn bytes directory ks ts → ((k : ℕ) → IsAmong ks k → Reached k) → (k : ℕ) → IsAmong (flat_map (lying bytes directory) ts) k → Reached k
  all_reached [] ts h r k a = absurd (nothing (subst (λ xs. IsAmong (flat_map (lying bytes directory) xs) k) h a))
    where
      nothing : IsAmong [] k → ⊥
      nothing (i, l, e) = omega (arith, l)
  all_reached (n ∷ ks) [] h r k a = absurd h
  all_reached (n ∷ ks) (t ∷ ts) h r k a =
      let one : (x : ℕ) → IsAmong (lying bytes directory t) x → Reached x = λ x b.
      let p = r n (0, omega arith, refl) in
      let s = stored_is t x b in
      (p.0 ++ called x ∷ [], leads_more p.0 0 n x (called x) t p.1 h.0 (named_found (members t) x h.0.names s.0 s.1)) in
      let waiting : (x : ℕ) → IsAmong (ks ++ lying bytes directory t) x → Reached x = λ x b. parted ks (lying bytes directory t) x (λ y. r x (among_more n ks x y)) (one x) b in
      parted (lying bytes directory t) (flat_map (lying bytes directory) ts) k (one k) (all_reached (ks ++ lying bytes directory t) ts h.1 waiting k) a
    where
      parted : (xs ys : List ℕ) (x : ℕ) → (IsAmong xs x → Reached x) → (IsAmong ys x → Reached x) → IsAmong (xs ++ ys) x → Reached x
      parted xs ys x f g (i, l, e) =
          elim (cases_lt i (length xs)) [
            | inl b ↦ f (i, b, sym (get_or_append_left xs ys 0 i b) ∙ e)
            | inr b ↦ g (i - length xs, omega (arith, l, length-append xs ys), sym (get_or-append_right xs ys (length xs) i 0 refl b) ∙ e)
          ]

  pub listed_reached : (ts : List Tree) → LieInTurn bytes directory (0 ∷ []) ts → (k : ℕ) → IsAmong (numbered bytes directory ts) k → Reached k
  listed_reached ts h k (zero, l, e) = ([], ap Some (sym e))
  listed_reached ts h k (suc i, l, e) = all_reached (0 ∷ []) ts h root k (i, omega (arith, l), e)
    where
      root : (x : ℕ) → IsAmong (0 ∷ []) x → Reached x
      root x (zero, l, e) = ([], ap Some (sym e))
      root x (suc i, l, e) = absurd (omega (arith, l))

  -- AND BACK

  -- each storage that waits or was found was looked into
  looked_into : (ks : List ℕ) (ts : List Tree) → LieInTurn bytes directory ks ts → (k : ℕ) → IsAmong (ks ++ flat_map (lying bytes directory) ts) k
      → (t : Tree) × IsStorageTree bytes directory k t × ((x : ℕ) → IsAmong (lying bytes directory t) x → IsAmong (flat_map (lying bytes directory) ts) x)
  looked_into [] ts h k a = absurd (nothing (subst (λ xs. IsAmong (flat_map (lying bytes directory) xs) k) h a))
    where
      nothing : IsAmong [] k → ⊥
      nothing (i, l, e) = omega (arith, l)
  looked_into (n ∷ ks) [] h k a = absurd h
  looked_into (n ∷ ks) (t ∷ ts) h k (zero, l, e) =
      (t, subst (λ x. IsStorageTree bytes directory x t) e h.0, among_left (lying bytes directory t) (flat_map (lying bytes directory) ts))
  looked_into (n ∷ ks) (t ∷ ts) h k (suc i, l, e) =
      let there : IsAmong (ks ++ (lying bytes directory t ++ flat_map (lying bytes directory) ts)) k = (i, omega (arith, l), e) in
      let rest = looked_into (ks ++ lying bytes directory t) ts h.1 k (subst (λ xs. IsAmong xs k) (sym (append_assoc ks (lying bytes directory t) (flat_map (lying bytes directory) ts))) there) in
      (rest.0, rest.1, λ x b. among_right (lying bytes directory t) (flat_map (lying bytes directory) ts) x (rest.2 x b))

  pub reached_listed : (ts : List Tree) → LieInTurn bytes directory (0 ∷ []) ts → (path : List (List ℕ)) (k e : ℕ) → IsAmong (numbered bytes directory ts) k → Leads bytes directory path k (Some e) → IsAmong (numbered bytes directory ts) e
  reached_listed ts h [] k e a leads = subst (IsAmong (numbered bytes directory ts)) (sym (same_Some e k leads)) a
  reached_listed ts h (q ∷ path) k e a (u, lies, m) =
      let t = looked_into (0 ∷ []) ts h k a in
      let same : t.0 ≡ u = storage_tree_once bytes directory k t.0 u t.1 lies in
      on (λ n b r. reached_listed ts h path n e b r) (λ x b. among_more 0 (flat_map (lying bytes directory) ts) x (t.2 x (subst (λ v. IsAmong (lying bytes directory v) x) (sym same) b)))
      (storage_named bytes directory q (members u)) refl m
    where
      on : ((n : ℕ) → IsAmong (numbered bytes directory ts) n → Leads bytes directory path n (Some e) → IsAmong (numbered bytes directory ts) e)
          → ((x : ℕ) → IsAmong (lying bytes directory u) x → IsAmong (numbered bytes directory ts) x)
          → (o : Option ℕ) → storage_named bytes directory q (members u) ≡ o → Onward bytes directory path o (Some e) → IsAmong (numbered bytes directory ts) e
      on f g None s m = absurd (none m)
        where
          none : ◌≡◌ {A = Option ℕ} (Some e) None → ⊥
          none z = cc
      on f g (Some n) s m =
          let found = found_named bytes directory q (members u) n s in
          f n (g n (among_filter (λ x. eqb (kind bytes directory x) 1) (members u) n (ap (λ x. eqb x 1) found.1) found.0)) m
