-- Where there is no difference, the rows of each key are the same.
use Rattle.std.proofs.Common.{◌≡◌, ℕ, zero, suc, ◌+◌, ◌⊎◌, Bool, true, false, cond, List, [], ◌∷◌, ◌++◌, Option, Some, None, Ordering, Less, Equal, Greater, refl, sym, ap, ◌∙◌, ⊎_elim, inl, inr, arith}
use Rattle.std.specs.Prelude.{option_and_then, slice_get}
use Rattle.std.specs.Cmp.Lexicographic.{slice_cmp}
use Rattle.std.specs.Option.{option_to_list}
use Rattle.std.specs.Ordering.{is_eq, ordering_then}
use Rattle.std.proofs.lemmas.Slice.Eq.{slice_eq-Decides}
use Rattle.msi_table_values.specs.declared.value.Value.{Value}
use Rattle.msi_table_values.specs.Columns.{ColumnDef}
use Rattle.msi_table_values.specs.OrderLaws.{value_eq-Decides}
use Rattle.msi_table_values.specs.Values.{value_cmp}
use Rattle.msi_table_cells.specs.KeyOrder.{key_of, same_key}
use Rattle.msi_table.specs.declared.comparing.Difference.{Difference}
use Rattle.msi_table.specs.Differences.{each_from, either, is_same_as, new_with, of_new, of_old, old_with, place_from, place_of, same_row, stands_at}
use Rattle.msi_table.specs.Laws.{NoneMeansSame, row_of}

-- keys that tie are equal
then_parts : (o p : Ordering) → is_eq (ordering_then o p) ≡ true → (is_eq o ≡ true) × (is_eq p ≡ true)
then_parts Less p h = (h, cc)
then_parts Equal p h = (refl, h)
then_parts Greater p h = (h, cc)

pub keys_tie : (a b : List Value) → same_key a b ≡ true → a ≡ b
keys_tie [] [] h = refl
keys_tie [] (y ∷ ys) h = cc
keys_tie (x ∷ xs) [] h = cc
keys_tie (x ∷ xs) (y ∷ ys) h =
    let parts : (is_eq (value_cmp x y) ≡ true) × (is_eq (slice_cmp value_cmp xs ys) ≡ true) = then_parts (value_cmp x y) (slice_cmp value_cmp xs ys) h in
    let first : x ≡ y = (value_eq-Decides x y).0 parts.0 in
    let others : xs ≡ ys = keys_tie xs ys parts.1 in
    ap (λ (v : Value). v ∷ xs) first ∙ ap (λ (vs : List Value). y ∷ vs) others

pub some_or_none : (o : Option ℕ) → (o ≡ None) ⊎ ((q : ℕ) × (o ≡ Some q))
some_or_none None = inl refl
some_or_none (Some q) = inr (q, refl)

-- the row that a place is of
pub record Found (columns : List ColumnDef) (key : List Value) (n : ℕ) (rows : List (List Value)) (p : ℕ) : Type 0 where
  pub i : ℕ
  pub row : List Value
  pub at : p ≡ n + i
  pub there : slice_get rows i ≡ Some row
  pub same : same_key (key_of columns row) key ≡ true

taken : (s : Bool) (n p : ℕ) → cond s (Some n) None ≡ Some p → (s ≡ true) × (n ≡ p)
taken true n p h = (refl, cc)
taken false n p h = cc

pub found : (columns : List ColumnDef) (key : List Value) (n : ℕ) (rows : List (List Value)) (p : ℕ) → place_from columns key n rows ≡ Some p → Found columns key n rows p
found columns key n [] p h = cc
found columns key n (r ∷ rs) p h =
    let s : Bool = same_key (key_of columns r) key in
    let t : Option ℕ = cond s (Some n) None in
    ⊎_elim
    (λ (e : place_from columns key (n + 1) rs ≡ None).
    let k : t ≡ Some p = sym (ap (λ (o : Option ℕ). either o t) e) ∙ h in
    let g : (s ≡ true) × (n ≡ p) = taken s n p k in
    let first : Found columns key n (r ∷ rs) p = record { i = 0; row = r; at = omega arith; there = refl; same = g.0 } in first)
    (λ (m : (q : ℕ) × (place_from columns key (n + 1) rs ≡ Some q)).
    let k : Some m.0 ≡ Some p = sym (ap (λ (o : Option ℕ). either o t) m.1) ∙ h in
    let same_place : m.0 ≡ p = cc in
    let f : Found columns key (n + 1) rs m.0 = found columns key (n + 1) rs m.0 m.1 in
    let later : Found columns key n (r ∷ rs) p = record { i = suc f.i; row = f.row; at = omega (arith, f.at); there = f.there; same = f.same } in later)
    (some_or_none (place_from columns key (n + 1) rs))

-- rows that make nothing
front_nil : (o : Option Difference) (ds : List Difference) → option_to_list o ++ ds ≡ [] → (o ≡ None) × (ds ≡ [])
front_nil None ds h = (refl, h)
front_nil (Some d) ds h = cc

nil_parts : (xs ys : List Difference) → xs ++ ys ≡ [] → (xs ≡ []) × (ys ≡ [])
nil_parts [] ys h = (refl, h)
nil_parts (x ∷ xs) ys h = cc

each_none : (makes : ℕ → List Value → Option Difference) (n : ℕ) (rows : List (List Value)) (i : ℕ) (row : List Value)
    → each_from makes n rows ≡ [] → slice_get rows i ≡ Some row → makes (n + i) row ≡ None
each_none makes n [] i row h g = cc
each_none makes n (r ∷ rs) zero row h g =
    let same : r ≡ row = cc in
    let here : n + 0 ≡ n = omega arith in
    ap (λ (m : ℕ). makes m row) here ∙ ap (makes n) (sym same) ∙ (front_nil (makes n r) (each_from makes (n + 1) rs) h).0
each_none makes n (r ∷ rs) (suc i) row h g =
    let here : n + suc i ≡ (n + 1) + i = omega arith in
    ap (λ (m : ℕ). makes m row) here ∙ each_none makes (n + 1) rs i row (front_nil (makes n r) (each_from makes (n + 1) rs) h).1 g

by_test : (b : Bool) (d : Difference) → cond b None (Some d) ≡ None → b ≡ true
by_test true d h = refl
by_test false d h = cc

old_none : (new : List (List Value)) (place : ℕ) (row : List Value) (o : Option ℕ) → old_with new place row o ≡ None → (j : ℕ) × (o ≡ Some j) × (stands_at new j row ≡ true)
old_none new place row None h = cc
old_none new place row (Some j) h = (j, refl, by_test (stands_at new j row) _ h)

new_none : (place : ℕ) (o : Option ℕ) → new_with place o ≡ None → (q : ℕ) × (o ≡ Some q)
new_none place None h = cc
new_none place (Some q) h = (q, refl)

pub same_is : (o : Option (List Value)) (row : List Value) → is_same_as o row ≡ true → o ≡ Some row
same_is None row h = cc
same_is (Some other) row h = ap Some ((slice_eq-Decides value_eq-Decides other row (same_row other row) refl).0 h)

-- the row that an old table has
pub same_rows : NoneMeansSame
same_rows columns old new h key =
    let parts : (each_from (of_old columns new) 0 old ≡ []) × (each_from (of_new columns old) 0 new ≡ []) =
    nil_parts (each_from (of_old columns new) 0 old) (each_from (of_new columns old) 0 new) h in
    ⊎_elim
    (λ (e : place_of columns old key ≡ None). ⊎_elim
    (λ (g : place_of columns new key ≡ None). ap (option_and_then (slice_get old)) e ∙ sym (ap (option_and_then (slice_get new)) g))
    (λ (m : (q : ℕ) × (place_of columns new key ≡ Some q)).
    let f : Found columns key 0 new m.0 = found columns key 0 new m.0 m.1 in
    let k : key_of columns f.row ≡ key = keys_tie (key_of columns f.row) key f.same in
    let there = new_none (0 + f.i) (place_of columns old (key_of columns f.row)) (each_none (of_new columns old) 0 new f.i f.row parts.1 f.there) in
    let clash : None ≡ Some there.0 = sym e ∙ sym (ap (place_of columns old) k) ∙ there.1 in
    cc)
    (some_or_none (place_of columns new key)))
    (λ (m : (q : ℕ) × (place_of columns old key ≡ Some q)).
    let f : Found columns key 0 old m.0 = found columns key 0 old m.0 m.1 in
    let k : key_of columns f.row ≡ key = keys_tie (key_of columns f.row) key f.same in
    let there = old_none new (0 + f.i) f.row (place_of columns new (key_of columns f.row)) (each_none (of_old columns new) 0 old f.i f.row parts.0 f.there) in
    let at : m.0 ≡ f.i = omega (arith, f.at) in
    let left : row_of columns old key ≡ Some f.row = ap (option_and_then (slice_get old)) m.1 ∙ ap (slice_get old) at ∙ f.there in
    let right : row_of columns new key ≡ Some f.row =
    ap (option_and_then (slice_get new)) (sym (ap (place_of columns new) k) ∙ there.1) ∙ same_is (slice_get new there.0) f.row there.2 in
    left ∙ sym right)
    (some_or_none (place_of columns old key))
