-- What a set keeps to: its types, ids that ascend, and a page that is known.
use Rattle.std.proofs.Common.{◌≡◌, ℕ, ◌^◌, ◌≤◌, ◌<◌, Bool, true, false, not, eqb, List, [], ◌∷◌, filter, refl, sym, subst, arith, inl, inr}
use Rattle.std.specs.Prelude.{◌⊎◌, ◌==◌}
use Rattle.std.specs.List.{list_any, AllByRecursion, AllZip}
use Rattle.std.specs.Ordering.{nat_cmp}
use Rattle.std.specs.BTreeMap.{insert_entry}
use Rattle.std.proofs.lemmas.Bool.{cases_Bool, cases_lt, eqb-false, or_parts}
use Rattle.std.proofs.lemmas.Cmp.{by_ranked, ranked}
use Rattle.msi_base.specs.Lists.{has_pair}
use Rattle.msi_base.proofs.ListLemmas.{all_kept}
use Rattle.msi_summary_properties.specs.declared.propset.PropertyValue.{PropertyValue}
use Rattle.msi_summary_properties.specs.Properties.{Properties, can_set, with_value, without_value}
use Rattle.msi_summary_properties.specs.PropertyLaws.{AreInRange, Ascending, IsKept}
use Rattle.msi_summary_properties.specs.PropertyStream.{FitsValue, Spells, by_id}
use Rattle.msi_summary_properties.proofs.PropertiesLemmas.{NamesPage-insert_entry, NamesPage-without}
use Rattle.msi_summary_properties.proofs.SortedIdsLemmas.{Apart, apart_sorted, put_by_id, pl_lt, pl_ge}
use Rattle.msi_summary_properties.proofs.SpelledSetLemmas.{listed_as}

-- ---- a value is set

all_insert : {X : Type 0} (P : ℕ × X → Type 0) (k : ℕ) (v : X) → ((j : ℕ) → k ≡ j → P (j, v)) → (es : List (ℕ × X)) → AllByRecursion P es → AllByRecursion P (insert_entry nat_cmp es k v)
all_insert P k v held [] h = (held k refl, tt)
all_insert P k v held (e ∷ es) h = by_ranked _ _ _ (nat_cmp k e.0) (ranked k e.0 (nat_cmp k e.0) refl)
    (λ p lt. rw p (held k refl, h))
    (λ p same. rw p (held e.0 same, h.1))
    (λ p gt. rw p (h.0, all_insert P k v held es h.1))

above_all : {X : Type 0} (k j : ℕ) (es : List (ℕ × X)) → k < j → AllByRecursion (λ f. j < f.0) es → AllByRecursion (λ f. k < f.0) es
above_all k j [] lt h = tt
above_all k j (e ∷ es) lt h = (omega (arith, lt, h.0), above_all k j es lt h.1)

ascending_insert : {X : Type 0} (k : ℕ) (v : X) (es : List (ℕ × X)) → Ascending es → Ascending (insert_entry nat_cmp es k v)
ascending_insert k v [] h = (tt, tt)
ascending_insert k v (e ∷ es) h = by_ranked _ _ _ (nat_cmp k e.0) (ranked k e.0 (nat_cmp k e.0) refl)
    (λ p lt. rw p ((lt, above_all k e.0 es lt h.0), h))
    (λ p same. rw p h)
    (λ p gt. rw p (all_insert (λ f. e.0 < f.0) k v (λ j same. omega (arith, gt, same)) es h.0, ascending_insert k v es h.1))

pub IsKept-with_value : (id : ℕ) (value : PropertyValue) (set : Properties) → can_set id value ≡ true → id < 2 ^ 32 → FitsValue value
    → IsKept set → IsKept (with_value id value set)
IsKept-with_value id value set can small fits kept = record {
  header = kept.header;
  ids = all_insert (λ e. e.0 < 2 ^ 32) id value (λ j same. omega (arith, small, same)) set.values kept.ids;
  ascending = ascending_insert id value set.values kept.ascending;
  range = all_insert (λ e. FitsValue e.1) id value (λ j same. fits) set.values kept.range;
  page = NamesPage-insert_entry id value set.values can kept.page;
}

-- ---- a value is removed

ascending_filter : {X : Type 0} (p : ℕ × X → Bool) (es : List (ℕ × X)) → Ascending es → Ascending (filter p es)
ascending_filter p [] h = tt
ascending_filter p (e ∷ es) h = elim (cases_Bool (p e)) [
  | inl t ↦ rw t (all_kept (λ f. e.0 < f.0) p es h.0, ascending_filter p es h.1)
  | inr f ↦ rw f (ascending_filter p es h.1)
]

pub IsKept-without_value : (id : ℕ) (set : Properties) → IsKept set → IsKept (without_value id set)
IsKept-without_value id set kept = record {
  header = kept.header;
  ids = all_kept (λ e. e.0 < 2 ^ 32) (λ e. not (e.0 == id)) set.values kept.ids;
  ascending = ascending_filter (λ e. not (e.0 == id)) set.values kept.ascending;
  range = all_kept (λ e. FitsValue e.1) (λ e. not (e.0 == id)) set.values kept.range;
  page = NamesPage-without id set.values kept.page;
}

-- ---- a set is spelled

all_placed : {X : Type 0} (P : ℕ × X → Type 0) (e : ℕ × X) (es : List (ℕ × X)) → P e → AllByRecursion P es → AllByRecursion P (put_by_id e es)
all_placed P e [] one h = (one, tt)
all_placed {X = X} P e (f ∷ es) one h = elim (cases_lt f.0 e.0) [
  | inl s ↦ subst (λ (x : List (ℕ × X)). AllByRecursion P x) (sym (pl_lt e f es s)) (h.0, all_placed P e es one h.1)
  | inr s ↦ subst (λ (x : List (ℕ × X)). AllByRecursion P x) (sym (pl_ge e f es s)) (one, h)
]

all_sorted : {X : Type 0} (P : ℕ × X → Type 0) (es : List (ℕ × X)) → AllByRecursion P es → AllByRecursion P (by_id es)
all_sorted P [] h = tt
all_sorted P (e ∷ es) h = all_placed P e (by_id es) h.0 (all_sorted P es h.1)

strictly : (a b : ℕ) → a ≤ b → (a < b) ⊎ (b < a) → a < b
strictly a b le (inl lt) = lt
strictly a b le (inr gt) = absurd (omega (arith, le, gt))

ascending_placed : {X : Type 0} (e : ℕ × X) (es : List (ℕ × X)) → Apart e.0 es → Ascending es → Ascending (put_by_id e es)
ascending_placed e [] apart h = (tt, tt)
ascending_placed {X = X} e (f ∷ es) apart h = elim (cases_lt f.0 e.0) [
  | inl s ↦ subst (λ (x : List (ℕ × X)). Ascending x) (sym (pl_lt e f es s)) (all_placed (λ g. f.0 < g.0) e es s h.0, ascending_placed e es apart.1 h.1)
  | inr s ↦
      let lt : e.0 < f.0 = strictly e.0 f.0 s apart.0 in
      subst (λ (x : List (ℕ × X)). Ascending x) (sym (pl_ge e f es s)) ((lt, above_all e.0 f.0 es lt h.0), h)
]

differ : (a b : ℕ) → eqb a b ≡ false → (a < b) ⊎ (b < a)
differ a b h = elim (cases_lt a b) [
  | inl lt ↦ inl lt
  | inr le ↦ elim (cases_lt b a) [
    | inl lt ↦ inr lt
    | inr ge ↦ absurd (eqb-false a b h (omega arith))
  ]
]

apart_listed : (id : ℕ) (pairs : List (ℕ × ℕ)) (values : List PropertyValue) → list_any (λ p. eqb id p.0) pairs ≡ false → Apart id (listed_as pairs values)
apart_listed id [] values h = tt
apart_listed id (p ∷ pairs) [] h = tt
apart_listed id (p ∷ pairs) (v ∷ values) h =
    let none = or_parts (eqb id p.0) (list_any (λ q. eqb id q.0) pairs) h in
    (differ id p.0 none.0, apart_listed id pairs values none.1)

ascending_listed : (pairs : List (ℕ × ℕ)) (values : List PropertyValue) → has_pair (λ p q. eqb p.0 q.0) pairs ≡ false → Ascending (by_id (listed_as pairs values))
ascending_listed [] values once = tt
ascending_listed (p ∷ pairs) [] once = tt
ascending_listed (p ∷ pairs) (v ∷ values) once =
    let none = or_parts (list_any (λ q. eqb p.0 q.0) pairs) (has_pair (λ p q. eqb p.0 q.0) pairs) once in
    ascending_placed (p.0, v) (by_id (listed_as pairs values)) (apart_sorted p.0 (listed_as pairs values) (apart_listed p.0 pairs values none.0)) (ascending_listed pairs values none.1)

ids_listed : (pairs : List (ℕ × ℕ)) (values : List PropertyValue) → AllByRecursion (λ p. (p.0 < 2 ^ 32) × (p.1 < 2 ^ 32)) pairs → AllByRecursion (λ e. e.0 < 2 ^ 32) (listed_as pairs values)
ids_listed [] values h = tt
ids_listed (p ∷ pairs) [] h = tt
ids_listed (p ∷ pairs) (v ∷ values) h = (h.0.0, ids_listed pairs values h.1)

range_listed : (P : ℕ × ℕ → PropertyValue → Type 0) (pairs : List (ℕ × ℕ)) (values : List PropertyValue)
    → AllZip (λ p v. FitsValue v × P p v) pairs values → AreInRange (listed_as pairs values)
range_listed P [] values h = tt
range_listed P (p ∷ pairs) [] h = tt
range_listed P (p ∷ pairs) (v ∷ values) h = (h.0.0, range_listed P pairs values h.1)

pub IsKept-spelled : (bytes : List ℕ) (set : Properties) → Spells bytes set → IsKept set
IsKept-spelled bytes set s = record {
  header = s.held;
  ids = subst (λ (x : List (ℕ × PropertyValue)). AllByRecursion (λ e. e.0 < 2 ^ 32) x) (sym s.listed) (all_sorted (λ e. e.0 < 2 ^ 32) (listed_as s.pairs s.values) (ids_listed s.pairs s.values s.fits.6));
  ascending = subst (λ (x : List (ℕ × PropertyValue)). Ascending x) (sym s.listed) (ascending_listed s.pairs s.values s.once);
  range = subst (λ (x : List (ℕ × PropertyValue)). AreInRange x) (sym s.listed)
      (all_sorted (λ e. FitsValue e.1) (listed_as s.pairs s.values) (range_listed _ s.pairs s.values s.spelled));
  page = s.page;
}
