-- The entries of a map in any order are the map.
use Rattle.std.proofs.Common.{◌≡◌, ◌≢◌, ℕ, ◌+◌, ◌-◌, ◌<◌, Bool, true, false, T, List, [], ◌∷◌, length, get_or, map, Option, Some, None, Contains, inl, inr, sym, ◌∙◌, ap, ap₂, arith, refl}
use Rattle.std.specs.Cmp.{IsEquivalence, eq_by_cmp_equiv}
use Rattle.std.specs.FinMap.{FinMap, entries, entries_sorted, from_entries, get-entries, same_map}
use Rattle.std.specs.FinMap.Entries.{below_all, is_sorted}
use Rattle.std.specs.List.{AllByRecursion, IsDistinct}
use Rattle.std.specs.Map.{keys_of, lookup}
use Rattle.std.specs.Ordering.{eq_by_cmp, is_eq, is_lt}
use Rattle.std.specs.declared.cmp.Ordering.{Ordering}
use Rattle.std.specs.declared.cmp.Ordering.TheVariants.{Less, Equal, Greater}
use Rattle.std.proofs.lemmas.Bool.{cases_lt, false≢true}
use Rattle.std.proofs.lemmas.List.{get_or-map, get_or_default, length-map}
use Rattle.std.proofs.lemmas.Map.Keys.{IsDistinct-cons, IsDistinct-from_apart, apart_from_distinct}
use Rattle.std.proofs.lemmas.Map.Views.{Contains-from_lookup, lookup-from_Contains, tells_apart}
use Rattle.msi_base.proofs.BoolLemmas.{T_parts}
use Rattle.msi_container_format.specs.Names.{name_cmp}
use Rattle.msi_container_write.proofs.directories.BalanceLemmas.{Covers}
use Rattle.msi_container_format.proofs.NamesLemmas.{exact_names, find_is_lookup, get_is_lookup, names_total}
use Rattle.msi_container_write.proofs.placing.PlacedLemmas.{NamedStreams, stream_at, name_at}

-- LOOK-UPS

module _ {K X : Type 0} {eq : K → K → Bool} (laws : IsEquivalence eq) (exact : (x y : K) → eq x y ≡ true → x ≡ y) where
  -- what one look-up finds, another does, where one list's entries are among the other's
  found : (q : K) (es fs : List (K × X)) (v : X) → IsDistinct eq (keys_of fs) → ((e : K × X) → Contains es e → Contains fs e) → lookup (eq q) es ≡ Some v → lookup (eq q) fs ≡ Some v
  found q es fs v distinct among h = lookup-from_Contains laws q v fs distinct (among (q, v) (Contains-from_lookup exact q v es h))

  -- lists with the same entries, each of whose keys are apart, answer alike
  same_lookups : (q : K) (es fs : List (K × X)) → IsDistinct eq (keys_of es) → IsDistinct eq (keys_of fs)
      → ((e : K × X) → Contains es e → Contains fs e)
      → ((e : K × X) → Contains fs e → Contains es e)
      → lookup (eq q) es ≡ lookup (eq q) fs
  same_lookups q es fs d g among back = by_answer (lookup (eq q) fs) refl
    where
      by_answer : (o : Option X) → lookup (eq q) fs ≡ o → lookup (eq q) es ≡ lookup (eq q) fs
      by_answer (Some v) h = found q fs es v d back h ∙ sym h
      by_answer None h = by_other (lookup (eq q) es) refl
        where
          by_other : (p : Option X) → lookup (eq q) es ≡ p → lookup (eq q) es ≡ lookup (eq q) fs
          by_other None k = k ∙ sym h
          by_other (Some v) k = let f = found q es fs v g among k in absurd cc

-- KEYS

-- what is less isn't a tie
no_tie : (o : Ordering) → T (is_lt o) → is_eq o ≡ false
no_tie Less p = refl
no_tie Equal p = absurd p
no_tie Greater p = absurd p

-- a name below those of some entries is none of theirs
below_is_apart : (x : List ℕ) (es : NamedStreams) → T (below_all name_cmp x es) → AllByRecursion (λ y. eq_by_cmp name_cmp x y ≡ false) (keys_of es)
below_is_apart x [] h = tt
below_is_apart x (e ∷ es) h =
    let parts = T_parts _ _ h in
    (no_tie (name_cmp x e.0) parts.0, below_is_apart x es parts.1)

-- entries in the order of their names have names of their own
distinct_keys : (es : NamedStreams) → T (is_sorted name_cmp es) → IsDistinct (eq_by_cmp name_cmp) (keys_of es)
distinct_keys [] h = IsDistinct-from_apart (eq_by_cmp name_cmp) [] (λ i j d l b. absurd (omega arith))
distinct_keys (e ∷ es) h =
    let parts = T_parts _ _ h in
    IsDistinct-cons (eq_by_cmp name_cmp) e.0 (keys_of es) (below_is_apart e.0 es parts.0) (distinct_keys es parts.1)

-- the name of entry i
name_of : (es : NamedStreams) (i : ℕ) (d : List ℕ) → i < length es → get_or (keys_of es) i d ≡ (stream_at es i).0
name_of es i d l = get_or-map (λ (e : List ℕ × List ℕ). e.0) es i ([], []) d l

-- of two entries with names of their own, the later one's name isn't the earlier one's
names_in_order : (es : NamedStreams) (i j : ℕ) → IsDistinct (eq_by_cmp name_cmp) (keys_of es) → i < j → j < length es → eq_by_cmp name_cmp (stream_at es i).0 (stream_at es j).0 ≡ false
names_in_order es i j distinct l h =
    let apart = apart_from_distinct (eq_by_cmp name_cmp) (keys_of es) i j [] distinct l (omega (arith, length-map es (λ (e : List ℕ × List ℕ). e.0))) in
    ap₂ (eq_by_cmp name_cmp) (sym (name_of es i [] (omega arith))) (sym (name_of es j [] h)) ∙ apart

-- nor the other way round
names_differ : (es : NamedStreams) (i j : ℕ) → IsDistinct (eq_by_cmp name_cmp) (keys_of es) → i ≢ j → i < length es → j < length es → eq_by_cmp name_cmp (stream_at es i).0 (stream_at es j).0 ≡ false
names_differ es i j distinct apart l h =
    elim (cases_lt i j) [
      | inl less ↦ names_in_order es i j distinct less h
      | inr more ↦ (eq_by_cmp_equiv names_total).symm (stream_at es i).0 (stream_at es j).0 ∙ names_in_order es j i distinct (omega arith) l
    ]

-- ENTRIES IN ANY ORDER

-- entries by their numbers, from 1 on
abbrev numbered : NamedStreams → List ℕ → NamedStreams
numbered es ms = map (λ k. stream_at es (k - 1)) ms

-- the one at a place
numbered_at : (es : NamedStreams) (ms : List ℕ) (i : ℕ) (d : List ℕ × List ℕ) → i < length ms → get_or (numbered es ms) i d ≡ stream_at es (get_or ms i 0 - 1)
numbered_at es ms i d l = get_or-map (λ k. stream_at es (k - 1)) ms i 0 d l

-- there is one for each number
length-numbered : (es : NamedStreams) (ms : List ℕ) → length (numbered es ms) ≡ length ms
length-numbered es ms = length-map ms (λ k. stream_at es (k - 1))

module _ (es : NamedStreams) (ms : List ℕ) (covers : Covers 1 (length es) ms) where
  -- their names differ too
  numbered_distinct : IsDistinct (eq_by_cmp name_cmp) (keys_of es) → IsDistinct (eq_by_cmp name_cmp) (keys_of (numbered es ms))
  numbered_distinct distinct =
      let named = λ (i : ℕ) (d : List ℕ) (l : i < length ms). name_of (numbered es ms) i d (omega (arith, length-numbered es ms)) ∙ ap (λ (e : List ℕ × List ℕ). e.0) (numbered_at es ms i ([], []) l) in
      IsDistinct-from_apart (eq_by_cmp name_cmp) (keys_of (numbered es ms)) (λ i j d l h.
      let inside : j < length ms = omega (arith, length-map (numbered es ms) (λ (e : List ℕ × List ℕ). e.0), length-numbered es ms) in
      let v = covers.within i (omega arith) in
      let w = covers.within j inside in
      let apart = covers.distinct i j l inside in
      ap₂ (eq_by_cmp name_cmp) (named i d (omega arith)) (named j d inside)
      ∙ names_differ es (get_or ms i 0 - 1) (get_or ms j 0 - 1) distinct (λ same. apart (omega (arith, same, v.0, w.0))) (omega (arith, v.0, v.1)) (omega (arith, w.0, w.1)))

  -- they are among the entries
  numbered_among : (e : List ℕ × List ℕ) → Contains (numbered es ms) e → Contains es e
  numbered_among e h =
      let i = h.0 in
      let l : i < length ms = omega (arith, h.1, length-numbered es ms) in
      let v = covers.within i l in
      let b : get_or ms i 0 - 1 < length es = omega (arith, v.0, v.1) in
      (get_or ms i 0 - 1, b, get_or_default es (get_or ms i 0 - 1) e ([], []) b ∙ sym (numbered_at es ms i e l) ∙ h.2)

  -- and each entry is among them
  among_numbered : (e : List ℕ × List ℕ) → Contains es e → Contains (numbered es ms) e
  among_numbered e h =
      let place = covers.each (h.0 + 1) (omega arith) (omega (arith, h.1)) in
      let back : get_or ms place.0 0 - 1 ≡ h.0 = omega (arith, place.2) in
      (place.0, omega (arith, place.1, length-numbered es ms), numbered_at es ms place.0 e place.1 ∙ ap (stream_at es) back ∙ get_or_default es h.0 ([], []) e h.1 ∙ h.2)

-- a map's entries in any order are the map
pub collected : (m : FinMap name_cmp (List ℕ)) (ms : List ℕ) → Covers 1 (length (entries m)) ms
    → from_entries {R = name_cmp} (map (λ k. stream_at (entries m) (k - 1)) ms) ≡ m
collected m ms covers =
    let es = entries m in
    let distinct = distinct_keys es (entries_sorted m) in
    same_map names_total exact_names _ m (λ q.
    get_is_lookup (numbered es ms) q
    ∙ same_lookups (eq_by_cmp_equiv names_total) (tells_apart exact_names) q (numbered es ms) es (numbered_distinct es ms covers distinct) distinct (numbered_among es ms covers) (among_numbered es ms covers)
    ∙ sym (get-entries m q ∙ find_is_lookup q es))

-- and no two have one name
pub names_apart : (m : FinMap name_cmp (List ℕ)) (i j : ℕ) → i < length (entries m) → j < length (entries m) → i ≢ j → name_at (entries m) i ≢ name_at (entries m) j
names_apart m i j l h apart same =
    let es = entries m in
    let differ = names_differ es i j (distinct_keys es (entries_sorted m)) apart l h in
    let tied : eq_by_cmp name_cmp (name_at es i) (name_at es j) ≡ true =
    sym (ap (eq_by_cmp name_cmp (name_at es i)) same) ∙ (eq_by_cmp_equiv names_total).refl (name_at es i) in
    false≢true (sym differ ∙ tied)
