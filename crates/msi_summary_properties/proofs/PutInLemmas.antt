-- What the code puts together is the set that the reader gives.
use Rattle.std.proofs.Common.{◌≡◌, ℕ, ◌+◌, ◌<◌, Bool, true, false, cond, eqb, Equal, List, [], ◌∷◌, ◌++◌, drop, Option, Some, None, refl, sym, ap, subst, ◌∙◌, append_assoc, arith, inl, inr}
use Rattle.std.specs.Prelude.{◌⊎◌, is_some, ◌||◌}
use Rattle.std.specs.List.{AllByRecursion, list_any}
use Rattle.std.specs.Ordering.{nat_cmp, is_eq}
use Rattle.std.specs.Map.{lookup}
use Rattle.std.specs.BTreeMap.{is_at, insert_entry}
use Rattle.std.specs.Cmp.{nat_cmp_is}
use Rattle.std.proofs.lemmas.Bool.{eqb-true, cases_lt, or_parts, eq-eqb}
use Rattle.std.proofs.lemmas.List.{append-nil}
use Rattle.msi_base.specs.declared.codepage.CodePage.{CodePage}
use Rattle.msi_base.specs.Lists.{has_pair, entry_where}
use Rattle.msi_summary_properties.specs.declared.propset.PropertyValue.{PropertyValue}
use Rattle.msi_summary_properties.specs.Properties.{Properties}
use Rattle.msi_summary_properties.specs.PropertyStream.{by_id}
use Rattle.msi_summary_properties.specs.Reading.{Header, header_at, section_at, page_stated, value_at, values_in, put_values, set_with, set_in, set_put}
use Rattle.msi_base.proofs.OptionLemmas.{bind_some, guard_passed, some_is}
use Rattle.msi_summary_properties.proofs.SpelledSetLemmas.{listed_as}
use Rattle.msi_summary_properties.proofs.SortedIdsLemmas.{Apart, put_by_id, cmp_less, cmp_greater, pl_lt, pl_ge, apart_sorted, insert_sorted}

abbrev Differ : ℕ → ℕ → Type 0
Differ a b = (a < b) ⊎ (b < a)

differ_from : (a b : ℕ) → eqb a b ≡ false → Differ a b
differ_from a b h = elim (cases_lt a b) [
  | inl lt ↦ inl lt
  | inr le ↦ elim (cases_lt b a) [
    | inl lt ↦ inr lt
    | inr ge ↦ absurd (unlike (sym h ∙ alike a b (omega arith)))
  ]
]
  where
    unlike : false ≡ true → ⊥
    unlike e = cc

    alike : (a b : ℕ) → a ≡ b → eqb a b ≡ true
    alike a b e = eq-eqb a b e

differ_test : (a b : ℕ) → Differ a b → eqb a b ≡ false
differ_test a b d = by_test (eqb a b) refl
  where
    none : Differ a b → a ≡ b → ⊥
    none (inl lt) e = omega arith
    none (inr lt) e = omega arith

    by_test : (t : Bool) → eqb a b ≡ t → t ≡ false
    by_test true p = absurd (none d (eqb-true a b p))
    by_test false p = refl

at_differ : (a b : ℕ) → Differ a b → is_at (nat_cmp a) b ≡ false
at_differ a b (inl lt) = ap is_eq (cmp_less a b lt)
at_differ a b (inr lt) = ap is_eq (cmp_greater a b lt)

at_apart : (a b : ℕ) → is_at (nat_cmp a) b ≡ false → Differ a b
at_apart a b h = elim (cases_lt a b) [
  | inl lt ↦ inl lt
  | inr le ↦ elim (cases_lt b a) [
    | inl lt ↦ inr lt
    | inr ge ↦ absurd (unlike (sym h ∙ sym (ap is_eq (nat_cmp_is a b Equal (omega arith)))))
  ]
]
  where
    unlike : false ≡ true → ⊥
    unlike e = cc

under : {A : Type 0} (t : Bool) (x : A) (o : Option A) → is_some (cond t (Some x) o) ≡ false → (t ≡ false) × (is_some o ≡ false)
under true x o h = absurd cc
under false x o h = (refl, h)

absent_apart : (id : ℕ) (es : List (ℕ × PropertyValue)) → is_some (lookup (is_at (nat_cmp id)) es) ≡ false → Apart id es
absent_apart id [] h = tt
absent_apart id (e ∷ es) h = let u = under (is_at (nat_cmp id) e.0) e.1 (lookup (is_at (nat_cmp id)) es) h in (at_apart id e.0 u.0, absent_apart id es u.1)

apart_absent : (id : ℕ) (es : List (ℕ × PropertyValue)) → Apart id es → is_some (lookup (is_at (nat_cmp id)) es) ≡ false
apart_absent id [] h = refl
apart_absent id (e ∷ es) h = ap (λ (t : Bool). is_some (cond t (Some e.1) (lookup (is_at (nat_cmp id)) es))) (at_differ id e.0 h.0) ∙ apart_absent id es h.1

apart_unplaced : (id : ℕ) (e : ℕ × PropertyValue) (es : List (ℕ × PropertyValue)) → Apart id (put_by_id e es) → Apart id (e ∷ es)
apart_unplaced id e [] h = h
apart_unplaced id e (f ∷ es) h = elim (cases_lt f.0 e.0) [
  | inl s ↦ (let k = subst (λ (x : List (ℕ × PropertyValue)). Apart id x) (pl_lt e f es s) h in let m = apart_unplaced id e es k.1 in (m.0, (k.0, m.1)))
  | inr s ↦ subst (λ (x : List (ℕ × PropertyValue)). Apart id x) (pl_ge e f es s) h
]

apart_unsorted : (id : ℕ) (es : List (ℕ × PropertyValue)) → Apart id (by_id es) → Apart id es
apart_unsorted id [] h = h
apart_unsorted id (e ∷ es) h = let m = apart_unplaced id e (by_id es) h in (m.0, apart_unsorted id es m.1)

apart_push : (id k : ℕ) (v : PropertyValue) (es : List (ℕ × PropertyValue)) → Apart id es → Differ id k → Apart id (es ++ (k, v) ∷ [])
apart_push id k v [] h d = (d, tt)
apart_push id k v (e ∷ es) h d = (h.0, apart_push id k v es h.1 d)

apart_pop : (id k : ℕ) (v : PropertyValue) (es : List (ℕ × PropertyValue)) → Apart id (es ++ (k, v) ∷ []) → Apart id es × Differ id k
apart_pop id k v [] h = (tt, h.0)
apart_pop id k v (e ∷ es) h = let m = apart_pop id k v es h.1 in ((h.0, m.0), m.1)

-- ids that no entry has
abbrev Fresh : List (ℕ × ℕ) → List (ℕ × PropertyValue) → Type 0
Fresh pairs es = AllByRecursion (λ p. Apart p.0 es) pairs

turned : (a b : ℕ) → Differ a b → Differ b a
turned a b (inl lt) = inr lt
turned a b (inr lt) = inl lt

fresh_push : (k : ℕ) (v : PropertyValue) (pairs : List (ℕ × ℕ)) (es : List (ℕ × PropertyValue)) → Fresh pairs es → list_any (λ q. eqb k q.0) pairs ≡ false → Fresh pairs (es ++ (k, v) ∷ [])
fresh_push k v [] es h n = tt
fresh_push k v (p ∷ pairs) es h n =
    let o = or_parts (eqb k p.0) (list_any (λ q. eqb k q.0) pairs) n in
    (apart_push p.0 k v es h.0 (turned k p.0 (differ_from k p.0 o.0)), fresh_push k v pairs es h.1 o.1)

fresh_pop : (k : ℕ) (v : PropertyValue) (pairs : List (ℕ × ℕ)) (es : List (ℕ × PropertyValue)) → Fresh pairs (es ++ (k, v) ∷ []) → Fresh pairs es × (list_any (λ q. eqb k q.0) pairs ≡ false)
fresh_pop k v [] es h = (tt, refl)
fresh_pop k v (p ∷ pairs) es h =
    let m = apart_pop p.0 k v es h.0 in let r = fresh_pop k v pairs es h.1 in
    ((m.0, r.0), ap (λ (t : Bool). t || list_any (λ q. eqb k q.0) pairs) (differ_test k p.0 (turned p.0 k m.1)) ∙ r.1)

record Put (version : ℕ) (q : CodePage) (bytes : List ℕ) (section : ℕ) (pairs : List (ℕ × ℕ)) (es out : List (ℕ × PropertyValue)) : Type 0 where
  pub values : List PropertyValue
  pub read : values_in version q bytes section pairs ≡ Some values
  pub is : out ≡ by_id (es ++ listed_as pairs values)
  pub once : has_pair (λ p q. eqb p.0 q.0) pairs ≡ false
  pub fresh : Fresh pairs es

values_cons : (version : ℕ) (q : CodePage) (bytes : List ℕ) (section : ℕ) (p : ℕ × ℕ) (pairs : List (ℕ × ℕ)) (v : PropertyValue) (values : List PropertyValue) → value_at version q (drop (section + p.1) bytes) ≡ Some v → values_in version q bytes section pairs ≡ Some values
    → values_in version q bytes section (p ∷ pairs) ≡ Some (v ∷ values)
unfolding values_in
values_cons version q bytes section p pairs v values h g = rw (h, g) refl

put_cons : (version : ℕ) (q : CodePage) (bytes : List ℕ) (section : ℕ) (p : ℕ × ℕ) (pairs : List (ℕ × ℕ)) (v : PropertyValue) (entries : List (ℕ × PropertyValue)) → value_at version q (drop (section + p.1) bytes) ≡ Some v → is_some (lookup (is_at (nat_cmp p.0)) entries) ≡ false
    → put_values version q bytes section (p ∷ pairs) entries ≡ put_values version q bytes section pairs (insert_entry nat_cmp entries p.0 v)
unfolding put_values
put_cons version q bytes section p pairs v entries h g = rw (h, g) refl

in_made : (bytes : List ℕ) (h : Header) (pairs : List (ℕ × ℕ)) (q : CodePage) (values : List PropertyValue) → header_at bytes ≡ Some h → section_at (drop h.section bytes) ≡ Some pairs → has_pair (λ p q. eqb p.0 q.0) pairs ≡ false
    → page_stated h.version bytes h.section (entry_where (λ k. eqb k 1) pairs) ≡ Some q → values_in h.version q bytes h.section pairs ≡ Some values → set_in bytes ≡ Some (set_with h (by_id (listed_as pairs values)))
unfolding set_in
in_made bytes h pairs q values a b c d e = rw (a, b, c, d, e) refl

put_all : (bytes : List ℕ) (h : Header) (pairs : List (ℕ × ℕ)) (q : CodePage) (values : List (ℕ × PropertyValue)) → header_at bytes ≡ Some h → section_at (drop h.section bytes) ≡ Some pairs
    → page_stated h.version bytes h.section (entry_where (λ k. eqb k 1) pairs) ≡ Some q → put_values h.version q bytes h.section pairs [] ≡ Some values → set_put bytes ≡ Some (set_with h values)
unfolding set_put
put_all bytes h pairs q values a b d e = rw (a, b, d, e) refl

put_found : (version : ℕ) (q : CodePage) (bytes : List ℕ) (section : ℕ) (pairs : List (ℕ × ℕ)) (es out : List (ℕ × PropertyValue)) → put_values version q bytes section pairs (by_id es) ≡ Some out → Put version q bytes section pairs es out
unfolding put_values values_in
put_found version q bytes section [] es out e = record { values = []; read = refl; is = sym (some_is (by_id es) out e) ∙ ap by_id (sym (append-nil es)); once = refl; fresh = tt }
put_found version q bytes section (p ∷ pairs) es out e =
    let a = bind_some (value_at version q (drop (section + p.1) bytes)) _ out e in
    let g = guard_passed (is_some (lookup (is_at (nat_cmp p.0)) (by_id es))) (put_values version q bytes section pairs (insert_entry nat_cmp (by_id es) p.0 a.0)) out a.2 in
    let apart = apart_unsorted p.0 es (absent_apart p.0 (by_id es) g.0) in
    let m = put_found version q bytes section pairs (es ++ (p.0, a.0) ∷ []) out (ap (put_values version q bytes section pairs) (sym (insert_sorted p.0 a.0 es apart)) ∙ g.1) in
    let f = fresh_pop p.0 a.0 pairs es m.fresh in
    record {
      values = a.0 ∷ m.values;
      read = values_cons version q bytes section p pairs a.0 m.values a.1 m.read;
      is = m.is ∙ ap by_id (append_assoc es ((p.0, a.0) ∷ []) (listed_as pairs m.values));
      once = ap (λ (t : Bool). t || has_pair (λ p q. eqb p.0 q.0) pairs) f.1 ∙ m.once;
      fresh = (apart, f.0);
    }

put_again : (version : ℕ) (q : CodePage) (bytes : List ℕ) (section : ℕ) (pairs : List (ℕ × ℕ)) (es : List (ℕ × PropertyValue)) (values : List PropertyValue) → values_in version q bytes section pairs ≡ Some values → has_pair (λ p q. eqb p.0 q.0) pairs ≡ false → Fresh pairs es
    → put_values version q bytes section pairs (by_id es) ≡ Some (by_id (es ++ listed_as pairs values))
unfolding put_values values_in
put_again version q bytes section [] es values read once fresh = subst (λ (x : List PropertyValue). Some (by_id es) ≡ Some (by_id (es ++ listed_as [] x))) (some_is [] values read) (ap (λ (x : List (ℕ × PropertyValue)). Some (by_id x)) (sym (append-nil es)))
put_again version q bytes section (p ∷ pairs) es values read once fresh =
    let a = bind_some (value_at version q (drop (section + p.1) bytes)) _ values read in
    let b = bind_some (values_in version q bytes section pairs) _ values a.2 in
    let o = or_parts (list_any (λ q. eqb p.0 q.0) pairs) (has_pair (λ p q. eqb p.0 q.0) pairs) once in
    let absent = apart_absent p.0 (by_id es) (apart_sorted p.0 es fresh.0) in
    let more = put_again version q bytes section pairs (es ++ (p.0, a.0) ∷ []) b.0 b.1 o.1 (fresh_push p.0 a.0 pairs es fresh.1 o.0) in
    let all = ap (put_values version q bytes section pairs) (insert_sorted p.0 a.0 es fresh.0) ∙ more ∙ ap (λ (x : List (ℕ × PropertyValue)). Some (by_id x)) (append_assoc es ((p.0, a.0) ∷ []) (listed_as pairs b.0)) in
    subst (λ (x : List PropertyValue). put_values version q bytes section (p ∷ pairs) (by_id es) ≡ Some (by_id (es ++ listed_as (p ∷ pairs) x))) (some_is (a.0 ∷ b.0) values b.2) (put_cons version q bytes section p pairs a.0 (by_id es) a.1 absent ∙ all)

pub set_put_in : (bytes : List ℕ) (set : Properties) → set_put bytes ≡ Some set → set_in bytes ≡ Some set
unfolding set_put set_in
set_put_in bytes set e =
    let a = bind_some (header_at bytes) _ set e in
    let b = bind_some (section_at (drop a.0.section bytes)) _ set a.2 in
    let c = bind_some (page_stated a.0.version bytes a.0.section (entry_where (λ k. eqb k 1) b.0)) _ set b.2 in
    let d = bind_some (put_values a.0.version c.0 bytes a.0.section b.0 []) _ set c.2 in
    let m = put_found a.0.version c.0 bytes a.0.section b.0 [] d.0 d.1 in
    in_made bytes a.0 b.0 c.0 m.values a.1 b.1 m.once c.1 m.read ∙ ap (λ (x : List (ℕ × PropertyValue)). Some (set_with a.0 x)) (sym m.is) ∙ d.2

no_clash : (pairs : List (ℕ × ℕ)) → Fresh pairs []
no_clash [] = tt
no_clash (p ∷ pairs) = (tt, no_clash pairs)

pub set_in_put : (bytes : List ℕ) (set : Properties) → set_in bytes ≡ Some set → set_put bytes ≡ Some set
unfolding set_put set_in
set_in_put bytes set e =
    let a = bind_some (header_at bytes) _ set e in
    let b = bind_some (section_at (drop a.0.section bytes)) _ set a.2 in
    let c = bind_some (cond (has_pair (λ p q. eqb p.0 q.0) b.0) None (page_stated a.0.version bytes a.0.section (entry_where (λ k. eqb k 1) b.0))) _ set b.2 in
    let g = guard_passed (has_pair (λ p q. eqb p.0 q.0) b.0) (page_stated a.0.version bytes a.0.section (entry_where (λ k. eqb k 1) b.0)) c.0 c.1 in
    let d = bind_some (values_in a.0.version c.0 bytes a.0.section b.0) _ set c.2 in
    put_all bytes a.0 b.0 c.0 (by_id (listed_as b.0 d.0)) a.1 b.1 g.1 (put_again a.0.version c.0 bytes a.0.section b.0 [] d.0 d.1 g.0 (no_clash b.0)) ∙ d.2
