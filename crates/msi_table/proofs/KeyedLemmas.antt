-- Rows and their keys: which rows have one, and what a filter keeps of them.
use Rattle.std.proofs.Common.{◌≡◌, ℕ, suc, ◌+◌, Bool, true, false, not, cond, ◌||◌, List, [], ◌∷◌, Option, Some, None, refl, sym, ap, ◌∙◌, filter, inl, inr, arith}
use Rattle.std.specs.Prelude.{is_none, slice_get}
use Rattle.std.specs.Cmp.Lexicographic.{lists_total}
use Rattle.std.specs.Ordering.{is_eq}
use Rattle.std.proofs.lemmas.Cmp.{tied_itself}
use Rattle.msi_base.proofs.BoolLemmas.{by_test, same_truth}
use Rattle.msi_base.proofs.ListLemmas.{In, has_pair-map, no_pair_kept}
use Rattle.msi_table_values.specs.declared.value.Value.{Value}
use Rattle.msi_table_values.specs.Columns.{ColumnDef}
use Rattle.msi_table_values.specs.OrderLaws.{value_cmp-total}
use Rattle.msi_table_cells.specs.KeyOrder.{key_of, same_key}
use Rattle.msi_table.specs.Differences.{either, place_from, place_of}
use Rattle.msi_table.specs.Laws.{KeysDiffer, has_key}
use Rattle.msi_table.proofs.LawLemmas.{keys_tie}

-- ---- keys

pub key_itself : (k : List Value) → same_key k k ≡ true
key_itself k = ap is_eq (tied_itself (lists_total value_cmp-total) k)

pub keys_equal : (k l : List Value) → k ≡ l → same_key k l ≡ true
keys_equal k l e = ap (same_key k) (sym e) ∙ key_itself k

pub keys_flip : (k l : List Value) → same_key k l ≡ same_key l k
keys_flip k l = same_truth (same_key k l) (same_key l k) (λ t. keys_equal l k (sym (keys_tie k l t))) (λ t. keys_equal k l (sym (keys_tie l k t)))

-- ---- places

no_place : (s : Bool) (n : ℕ) (o : Option ℕ) (a : Bool) → is_none o ≡ not a → is_none (either o (cond s (Some n) None)) ≡ not (s || a)
no_place true n None a e = refl
no_place false n None a e = e
no_place true n (Some p) a e = refl
no_place false n (Some p) a e = e

-- a key has a place where a row has it
pub place_there : (columns : List ColumnDef) (key : List Value) (n : ℕ) (rows : List (List Value)) → is_none (place_from columns key n rows) ≡ not (has_key columns rows key)
place_there columns key n [] = refl
place_there columns key n (r ∷ rs) = no_place (same_key (key_of columns r) key) n (place_from columns key (n + 1) rs) (has_key columns rs key) (place_there columns key (n + 1) rs)

pub unnot : (b : Bool) → true ≡ not b → b ≡ false
unnot true e = e
unnot false e = refl

pub no_key : (columns : List ColumnDef) (key : List Value) (rows : List (List Value)) → place_of columns rows key ≡ None → has_key columns rows key ≡ false
no_key columns key rows e = unnot (has_key columns rows key) (sym (ap is_none e) ∙ place_there columns key 0 rows)

-- ---- what a filter keeps

pub kept_in : {X : Type 0} (q : X → Bool) (xs : List X) (x : X) → In x (filter q xs) → In x xs × (q x ≡ true)
kept_in q [] x h = absurd h
kept_in q (y ∷ ys) x h = by_test (q y)
    (λ t. let g = rw t at h in front (kept_in q ys x) t g)
    (λ t. let g = rw t at h in let p = kept_in q ys x g in (inr p.0, p.1))
  where
    front : (In x (filter q ys) → In x ys × (q x ≡ true)) → q y ≡ true → In x (y ∷ filter q ys) → In x (y ∷ ys) × (q x ≡ true)
    front later t (inl e) = (inl e, ap q (sym e) ∙ t)
    front later t (inr i) = let p = later i in (inr p.0, p.1)

pub in_kept : {X : Type 0} (q : X → Bool) (xs : List X) (x : X) → In x xs → q x ≡ true → In x (filter q xs)
in_kept q [] x h t = absurd h
in_kept q (y ∷ ys) x (inl e) t = let u : q y ≡ true = ap q e ∙ t in rw u (inl e)
in_kept q (y ∷ ys) x (inr h) t = by_test (q y) (λ u. rw u (inr (in_kept q ys x h t))) (λ u. rw u (in_kept q ys x h t))

pub keys_kept : (columns : List ColumnDef) (q : List Value → Bool) (rows : List (List Value)) → KeysDiffer columns rows → KeysDiffer columns (filter q rows)
keys_kept columns q rows h =
    has_pair-map same_key (key_of columns) (filter q rows)
    ∙ no_pair_kept (λ a b. same_key (key_of columns a) (key_of columns b)) q rows (sym (has_pair-map same_key (key_of columns) rows) ∙ h)

-- ---- rows from a place on

pub record Rest {X : Type 0} (n : ℕ) (rest whole : List X) : Type 0 where
  pub at : (i : ℕ) → slice_get rest i ≡ slice_get whole (n + i)

pub all_rest : {X : Type 0} (whole : List X) → Rest 0 whole whole
all_rest whole = record { at = λ i. let e : i ≡ 0 + i = omega arith in ap (slice_get whole) e }

pub rest_first : {X : Type 0} (n : ℕ) (x : X) (rest whole : List X) → Rest n (x ∷ rest) whole → slice_get whole n ≡ Some x
rest_first n x rest whole r = let e : n ≡ n + 0 = omega arith in ap (slice_get whole) e ∙ sym (r.at 0)

pub rest_later : {X : Type 0} (n : ℕ) (x : X) (rest whole : List X) → Rest n (x ∷ rest) whole → Rest (n + 1) rest whole
rest_later n x rest whole r = record { at = λ i. let e : n + suc i ≡ n + 1 + i = omega arith in r.at (suc i) ∙ ap (slice_get whole) e }
