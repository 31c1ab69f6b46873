-- Which names the first members of a list have, and whether each has its own.
use Rattle.std.proofs.Common.{◌≡◌, ◌≢◌, ℕ, ◌+◌, ◌<◌, ◌≤◌, Bool, true, false, cond, ◌||◌, List, [], ◌∷◌, length, take, map, get_or, slice_index, inl, inr, sym, ◌∙◌, ap, arith}
use Rattle.std.specs.List.{list_any}
use Rattle.std.specs.BTreeMap.{is_at}
use Rattle.std.specs.Ordering.{is_eq}
use Rattle.std.proofs.lemmas.Bool.{false≢true, cases_lt}
use Rattle.std.proofs.lemmas.Cmp.{eq_by_cmp_equiv, tied_itself}
use Rattle.std.proofs.lemmas.List.{map_more, get_or-map, get_or-take, length-map, length-take-le, take_all}
use Rattle.std.proofs.lemmas.List.Folds.{list_any-append, list_any_at, Any-from_list_any}
use Rattle.std.proofs.lemmas.Map.Views.{tells_apart}
use Rattle.msi_base.proofs.BoolLemmas.{first_or_second}
use Rattle.msi_container_format.specs.Names.{name_cmp}
use Rattle.msi_container_format.proofs.NamesLemmas.{names_total, exact_names}

module _ (name : ℕ → List ℕ) (ks : List ℕ) where
  -- whether one of the first i members has this name
  abbrev pub is_known : ℕ → List ℕ → Bool
  is_known i q = list_any (is_at (name_cmp q)) (map name (take i ks))

  -- no two of the first i members have one name
  abbrev pub AreOwn : ℕ → Type 0
  AreOwn i = (a b : ℕ) → a < b → b < i → name (slice_index ks a) ≢ name (slice_index ks b)

  -- with one more member, its name is known too
  pub known_more : (i : ℕ) (key q : List ℕ) (old new : Bool)
      → i < length ks
      → key ≡ name (slice_index ks i)
      → old ≡ is_known i q
      → new ≡ cond (is_at (name_cmp key) q) true old
      → new ≡ is_known (i + 1) q
  known_more i key q old new l named known updated =
      let at = name (slice_index ks i) in
      let turned = (eq_by_cmp_equiv names_total).symm at q in
      let grown : is_known (i + 1) q ≡ (is_known i q || (is_at (name_cmp q) at || false)) =
      ap (list_any (is_at (name_cmp q))) (map_more name ks i 0 l) ∙ list_any-append (is_at (name_cmp q)) (map name (take i ks)) (at ∷ []) in
      updated
      ∙ ap (λ k. cond (is_at (name_cmp k) q) true old) named
      ∙ ap (cond (is_at (name_cmp at) q) true) known
      ∙ ap (λ b. cond b true (is_known i q)) turned
      ∙ first_or_second (is_known i q) (is_at (name_cmp q) at)
      ∙ sym grown

  named_at : (i k : ℕ) (d : List ℕ) → k < i → i ≤ length ks → get_or (map name (take i ks)) k d ≡ name (slice_index ks k)
  named_at i k d l w = get_or-map name (take i ks) k 0 d (omega (arith, length-take-le i ks w)) ∙ ap name (get_or-take i ks k 0 l)

  -- a known name is that of one of the members
  pub known_has_place : (i : ℕ) (q : List ℕ) → i ≤ length ks → is_known i q ≡ true → (k : ℕ) × (k < i) × (name (slice_index ks k) ≡ q)
  known_has_place i q w h =
      let a = Any-from_list_any (is_at (name_cmp q)) (map name (take i ks)) h in
      let within : a.0 < i = omega (arith, a.2, length-take-le i ks w, length-map (take i ks) name) in
      (a.0, within, sym (named_at i a.0 a.1 within w) ∙ a.3 ∙ sym (tells_apart exact_names q a.1 a.4))

  -- and each member's name is known
  pub known_at : (i k : ℕ) → k < i → i ≤ length ks → is_known i (name (slice_index ks k)) ≡ true
  known_at i k l w =
      let q = name (slice_index ks k) in
      let names = map name (take i ks) in
      let within : k < length names = omega (arith, length-take-le i ks w, length-map (take i ks) name) in
      list_any_at (is_at (name_cmp q)) names k [] within
      (ap (is_at (name_cmp q)) (named_at i k [] l w) ∙ ap is_eq (tied_itself names_total q))

  -- so a member whose name isn't known has its own
  pub own_more : (i : ℕ) (key : List ℕ)
      → i < length ks
      → key ≡ name (slice_index ks i)
      → is_known i key ≡ false
      → AreOwn i
      → AreOwn (i + 1)
  own_more i key l named new own a b m w e =
      elim (cases_lt b i) [
        | inl f ↦ own a b m f e
        | inr g ↦
            let last : b ≡ i = omega arith in
            let same : name (slice_index ks a) ≡ key = e ∙ ap (λ k. name (slice_index ks k)) last ∙ sym named in
            false≢true (sym new ∙ ap (is_known i) (sym same) ∙ known_at i a (omega arith) (omega arith))
      ]

  -- with all members, whether one of them has a name
  pub known_all : (i : ℕ) (q : List ℕ) → length ks ≤ i → is_known i q ≡ list_any (is_at (name_cmp q)) (map name ks)
  known_all i q l = ap (λ xs. list_any (is_at (name_cmp q)) (map name xs)) (take_all i ks l)
