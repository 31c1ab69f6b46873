-- Entries put in one after the other are the entries in the order of their ids.
use Rattle.std.proofs.Common.{◌≡◌, ℕ, ◌≤◌, ◌<◌, Bool, true, false, cond, eqb, Less, Equal, Greater, List, [], ◌∷◌, ◌++◌, refl, sym, ap, subst, ◌∙◌, arith, inl, inr}
use Rattle.std.specs.Prelude.{◌⊎◌}
use Rattle.std.specs.List.{AllByRecursion}
use Rattle.std.specs.Ordering.{nat_cmp, is_lt}
use Rattle.std.specs.BTreeMap.{insert_entry}
use Rattle.std.proofs.lemmas.Bool.{eqb-true, lt-ltb, le-ltb, cases_lt}
use Rattle.msi_base.specs.Lists.{placed}
use Rattle.msi_summary_properties.specs.PropertyLaws.{Ascending}
use Rattle.msi_summary_properties.specs.PropertyStream.{by_id}

pub cmp_less : (a b : ℕ) → a < b → nat_cmp a b ≡ Less
cmp_less a b lt = rw (lt-ltb a b lt) refl

pub cmp_greater : (a b : ℕ) → b < a → nat_cmp a b ≡ Greater
cmp_greater a b lt = rw (le-ltb a b (omega arith)) (by_test (eqb a b) refl)
  where
    by_test : (t : Bool) → eqb a b ≡ t → cond t Equal Greater ≡ Greater
    by_test true p = absurd (omega (arith, eqb-true a b p))
    by_test false p = refl

-- an id that no entry has
abbrev pub Apart : {X : Type 0} → ℕ → List (ℕ × X) → Type 0
Apart id es = AllByRecursion (λ e. (id < e.0) ⊎ (e.0 < id)) es

ins_lt : {X : Type 0} (id : ℕ) (v : X) (e : ℕ × X) (es : List (ℕ × X)) → id < e.0 → insert_entry nat_cmp (e ∷ es) id v ≡ (id, v) ∷ e ∷ es
ins_lt id v e es lt = rw (cmp_less id e.0 lt) refl

ins_gt : {X : Type 0} (id : ℕ) (v : X) (e : ℕ × X) (es : List (ℕ × X)) → e.0 < id → insert_entry nat_cmp (e ∷ es) id v ≡ e ∷ insert_entry nat_cmp es id v
ins_gt id v e es lt = rw (cmp_greater id e.0 lt) refl

abbrev pub put_by_id : {X : Type 0} → ℕ × X → List (ℕ × X) → List (ℕ × X)
put_by_id e es = placed (λ x y. nat_cmp x.0 y.0) e es

pub pl_lt : {X : Type 0} (x y : ℕ × X) (es : List (ℕ × X)) → y.0 < x.0 → put_by_id x (y ∷ es) ≡ y ∷ put_by_id x es
pl_lt x y es lt = rw (cmp_less y.0 x.0 lt) refl

pub pl_ge : {X : Type 0} (x y : ℕ × X) (es : List (ℕ × X)) → x.0 ≤ y.0 → put_by_id x (y ∷ es) ≡ x ∷ y ∷ es
pl_ge x y es le = rw (le-ltb y.0 x.0 le) (by_test (eqb y.0 x.0))
  where
    by_test : (t : Bool) → cond (is_lt (cond t Equal Greater)) (y ∷ put_by_id x es) (x ∷ y ∷ es) ≡ x ∷ y ∷ es
    by_test true = refl
    by_test false = refl

-- putting in commutes with the step of the sort
swap : {X : Type 0} (id : ℕ) (v : X) (e : ℕ × X) (es : List (ℕ × X)) → Apart id (e ∷ es) → insert_entry nat_cmp (put_by_id e es) id v ≡ put_by_id e (insert_entry nat_cmp es id v)
swap id v e [] (inl lt, h) = ins_lt id v e [] lt ∙ sym (pl_lt e (id, v) [] lt)
swap id v e [] (inr gt, h) = ins_gt id v e [] gt ∙ sym (pl_ge e (id, v) [] (omega arith))
swap {X = X} id v e (f ∷ es) (inl lt, (inl ft, h)) = elim (cases_lt f.0 e.0) [
  | inl s ↦ ap (λ (x : List (ℕ × X)). insert_entry nat_cmp x id v) (pl_lt e f es s) ∙ ins_lt id v f (put_by_id e es) ft ∙ sym (ap (put_by_id e) (ins_lt id v f es ft) ∙ pl_lt e (id, v) (f ∷ es) lt ∙ ap (λ (x : List (ℕ × X)). (id, v) ∷ x) (pl_lt e f es s))
  | inr s ↦ ap (λ (x : List (ℕ × X)). insert_entry nat_cmp x id v) (pl_ge e f es s) ∙ ins_lt id v e (f ∷ es) lt ∙ sym (ap (put_by_id e) (ins_lt id v f es ft) ∙ pl_lt e (id, v) (f ∷ es) lt ∙ ap (λ (x : List (ℕ × X)). (id, v) ∷ x) (pl_ge e f es s))
]
swap {X = X} id v e (f ∷ es) (inr gt, (inl ft, h)) =
    let s : e.0 ≤ f.0 = omega arith in
    ap (λ (x : List (ℕ × X)). insert_entry nat_cmp x id v) (pl_ge e f es s) ∙ ins_gt id v e (f ∷ es) gt ∙ ap (λ (x : List (ℕ × X)). e ∷ x) (ins_lt id v f es ft) ∙ sym (ap (put_by_id e) (ins_lt id v f es ft) ∙ pl_ge e (id, v) (f ∷ es) (omega arith))
swap {X = X} id v e (f ∷ es) (inl lt, (inr ft, h)) =
    ap (λ (x : List (ℕ × X)). insert_entry nat_cmp x id v) (pl_lt e f es (omega arith)) ∙ ins_gt id v f (put_by_id e es) ft ∙ ap (λ (x : List (ℕ × X)). f ∷ x) (swap id v e es (inl lt, h)) ∙ sym (ap (put_by_id e) (ins_gt id v f es ft) ∙ pl_lt e f (insert_entry nat_cmp es id v) (omega arith))
swap {X = X} id v e (f ∷ es) (inr gt, (inr ft, h)) = elim (cases_lt f.0 e.0) [
  | inl s ↦ ap (λ (x : List (ℕ × X)). insert_entry nat_cmp x id v) (pl_lt e f es s) ∙ ins_gt id v f (put_by_id e es) ft ∙ ap (λ (x : List (ℕ × X)). f ∷ x) (swap id v e es (inr gt, h)) ∙ sym (ap (put_by_id e) (ins_gt id v f es ft) ∙ pl_lt e f (insert_entry nat_cmp es id v) s)
  | inr s ↦ ap (λ (x : List (ℕ × X)). insert_entry nat_cmp x id v) (pl_ge e f es s) ∙ ins_gt id v e (f ∷ es) gt ∙ ap (λ (x : List (ℕ × X)). e ∷ x) (ins_gt id v f es ft) ∙ sym (ap (put_by_id e) (ins_gt id v f es ft) ∙ pl_ge e f (insert_entry nat_cmp es id v) s)
]

apart_placed : {X : Type 0} (id : ℕ) (e : ℕ × X) (es : List (ℕ × X)) → Apart id (e ∷ es) → Apart id (put_by_id e es)
apart_placed id e [] h = h
apart_placed {X = X} id e (f ∷ es) h = elim (cases_lt f.0 e.0) [
  | inl s ↦ subst (λ (x : List (ℕ × X)). Apart id x) (sym (pl_lt e f es s)) (h.1.0, apart_placed id e es (h.0, h.1.1))
  | inr s ↦ subst (λ (x : List (ℕ × X)). Apart id x) (sym (pl_ge e f es s)) h
]

pub apart_sorted : {X : Type 0} (id : ℕ) (es : List (ℕ × X)) → Apart id es → Apart id (by_id es)
apart_sorted id [] h = h
apart_sorted id (e ∷ es) h = apart_placed id e (by_id es) (h.0, apart_sorted id es h.1)

-- a new id, put into what is sorted, is what is sorted with it
pub insert_sorted : {X : Type 0} (id : ℕ) (v : X) (es : List (ℕ × X)) → Apart id es → insert_entry nat_cmp (by_id es) id v ≡ by_id (es ++ (id, v) ∷ [])
insert_sorted id v [] h = refl
insert_sorted id v (e ∷ es) h = swap id v e (by_id es) (h.0, apart_sorted id es h.1) ∙ ap (put_by_id e) (insert_sorted id v es h.1)

in_front : {X : Type 0} (e : ℕ × X) (es : List (ℕ × X)) → AllByRecursion (λ f. e.0 < f.0) es → put_by_id e es ≡ e ∷ es
in_front e [] h = refl
in_front e (f ∷ es) h = pl_ge e f es (omega (arith, h.0))

-- what ascends is sorted already
pub sorted_same : {X : Type 0} (es : List (ℕ × X)) → Ascending es → by_id es ≡ es
sorted_same [] h = refl
sorted_same (e ∷ es) h = ap (put_by_id e) (sorted_same es h.1) ∙ in_front e es h.0
