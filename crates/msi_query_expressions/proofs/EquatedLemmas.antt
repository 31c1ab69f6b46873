-- Rows that pass a condition with an equality of columns of two sides.
use Rattle.std.proofs.Common.{◌≡◌, ℕ, zero, suc, ◌-◌, ◌<◌, ◌≤◌, Bool, true, false, List, [], ◌∷◌, ◌++◌, length, Option, Some, None, refl, sym, ap, ◌∙◌, arith, ltb-true, ltb-false}
use Rattle.std.specs.Prelude.{option_and_then, unwrap_or, slice_get, nat_lt, if◌then◌else◌, ◌&&◌, IfSome}
use Rattle.std.specs.List.{AllByRecursion}
use Rattle.std.specs.Option.{option_or}
use Rattle.std.specs.Ordering.{is_eq}
use Rattle.msi_base.proofs.ListLemmas.{all_joined}
use Rattle.msi_table_values.specs.declared.value.Value.{Value}
use Rattle.msi_table_values.specs.declared.value.Value.TheVariants.{Null}
use Rattle.msi_table_values.specs.Values.{is_true, value_cmp}
use Rattle.msi_table_values.specs.Columns.{ColumnDef}
use Rattle.msi_table_values.specs.OrderLaws.{value_eq-Decides}
use Rattle.msi_query_expressions.specs.declared.operators.BinaryOp.TheVariants as two
use Rattle.msi_query_expressions.specs.Expressions.{Expression, literal, column, unary, binary, both, either}
use Rattle.msi_query_expressions.specs.OperatorValues.{truth}
use Rattle.msi_query_expressions.specs.Evaluation.{value_of}
use Rattle.msi_query_expressions.specs.Conditions.{meets, value_at_place, value_in}
use Rattle.msi_query_expressions.specs.Equated.{AreEqualAt, PassesWithEqual, both_places, column_place, equated, equations, one_of_each}

abbrev same : Value → Value → Bool
same v w = is_eq (value_cmp v w)

moved : (v x w y : Value) → v ≡ x → w ≡ y → same v w ≡ true → same x y ≡ true
moved v x w y e f t = ap (λ z. same z y) (sym e) ∙ ap (same v) (sym f) ∙ t

turned : (v w : Value) → same v w ≡ true → same w v ≡ true
turned v w t = (value_eq-Decides w v).1 (sym ((value_eq-Decides v w).0 t))

true_of : (b : Bool) → is_true (truth b) ≡ true → b ≡ true
true_of true e = refl
true_of false e = cc

true_both : (a b : Bool) → is_true (truth (a && b)) ≡ true → (a ≡ true) × (b ≡ true)
true_both true true e = (refl, refl)
true_both true false e = cc
true_both false b e = cc

-- a pair has the values of its first row, and behind them those of its second
at_first : (row other : List Value) (i : ℕ) → i < length row → slice_get (row ++ other) i ≡ slice_get row i
at_first [] other i h = absurd (omega arith)
at_first (x ∷ xs) other zero h = refl
at_first (x ∷ xs) other (suc i) h = at_first xs other i (omega arith)

at_second : (row other : List Value) (i : ℕ) → length row ≤ i → slice_get (row ++ other) i ≡ slice_get other (i - length row)
at_second [] other i h = let e : i ≡ i - 0 = omega arith in ap (slice_get other) e
at_second (x ∷ xs) other zero h = absurd (omega arith)
at_second (x ∷ xs) other (suc i) h =
    let e : i - length xs ≡ suc i - suc (length xs) = omega arith in
    at_second xs other i (omega arith) ∙ ap (slice_get other) e

-- what a column's place is of
place_value : (columns : List ColumnDef) (e : Expression) (p : ℕ) → column_place columns e ≡ Some p → (row : List Value) → value_of (value_in columns row) e ≡ value_at_place row p
place_value columns (column n) p h row = ap (λ o. unwrap_or (option_and_then (slice_get row) o) Null) h
place_value columns (literal v) p h row = cc
place_value columns (unary op e) p h row = cc
place_value columns (binary op l r) p h row = cc
place_value columns (both l r) p h row = cc
place_value columns (either l r) p h row = cc

module _ (columns : List ColumnDef) (width : ℕ) (l r : Expression) where
  abbrev are_same : List Value → Bool
  are_same row = is_true (truth (same (value_of (value_in columns row) l) (value_of (value_in columns row) r)))

  of_first : (e : Expression) (p : ℕ) → column_place columns e ≡ Some p → nat_lt p width ≡ true → (row other : List Value) → length row ≡ width
      → value_of (value_in columns (row ++ other)) e ≡ value_at_place row p
  of_first e p h b row other n =
      let below : p < width = ltb-true p width b in
      place_value columns e p h (row ++ other) ∙ ap (λ o. unwrap_or o Null) (at_first row other p (omega (arith, below, n)))

  of_second : (e : Expression) (p : ℕ) → column_place columns e ≡ Some p → nat_lt p width ≡ false → (row other : List Value) → length row ≡ width
      → value_of (value_in columns (row ++ other)) e ≡ value_at_place other (p - width)
  of_second e p h b row other n =
      let beyond : width ≤ p = ltb-false p width b in
      place_value columns e p h (row ++ other) ∙ ap (λ o. unwrap_or o Null) (at_second row other p (omega (arith, beyond, n)))
      ∙ ap (λ k. value_at_place other (p - k)) n

  sides_equal : (p q : ℕ) (b c : Bool) → column_place columns l ≡ Some p → column_place columns r ≡ Some q → nat_lt p width ≡ b → nat_lt q width ≡ c
      → IfSome (if b then (if c then None else Some (p, q - width)) else (if c then Some (q, p - width) else None)) (PassesWithEqual are_same width)
  sides_equal p q true true hl hr hp hq = tt
  sides_equal p q false false hl hr hp hq = tt
  sides_equal p q true false hl hr hp hq = λ row other n t.
      moved _ _ _ _ (of_first l p hl hp row other n) (of_second r q hr hq row other n) (true_of _ t)
  sides_equal p q false true hl hr hp hq = λ row other n t.
      turned (value_at_place other (p - width)) (value_at_place row q) (moved _ _ _ _ (of_second l p hl hp row other n) (of_first r q hr hq row other n) (true_of _ t))

  places_equal : (o u : Option ℕ) → column_place columns l ≡ o → column_place columns r ≡ u
      → IfSome (option_and_then (λ p. option_and_then (λ q. one_of_each width p q) u) o) (PassesWithEqual are_same width)
  places_equal None u hl hr = tt
  places_equal (Some p) None hl hr = tt
  places_equal (Some p) (Some q) hl hr = sides_equal p q (nat_lt p width) (nat_lt q width) hl hr refl refl

one_of_both : (width : ℕ) (o u : Option (ℕ × ℕ)) (first second test : List Value → Bool) → ((row : List Value) → test row ≡ true → (first row ≡ true) × (second row ≡ true))
    → IfSome o (PassesWithEqual first width) → IfSome u (PassesWithEqual second width) → IfSome (option_or o u) (PassesWithEqual test width)
one_of_both width (Some x) u first second test h f g = λ row other n t. f row other n (h (row ++ other) t).0
one_of_both width None (Some y) first second test h f g = λ row other n t. g row other n (h (row ++ other) t).1
one_of_both width None None first second test h f g = tt

pub equated_passes : (columns : List ColumnDef) (width : ℕ) (e : Expression) → IfSome (equated columns width e) (PassesWithEqual (meets columns (Some e)) width)
equated_passes columns width (literal v) = tt
equated_passes columns width (column n) = tt
equated_passes columns width (unary op e) = tt
equated_passes columns width (either l r) = tt
equated_passes columns width (both l r) =
    one_of_both width (equated columns width l) (equated columns width r) (meets columns (Some l)) (meets columns (Some r)) (meets columns (Some (both l r)))
    (λ row t. true_both _ _ t) (equated_passes columns width l) (equated_passes columns width r)
equated_passes columns width (binary two.Eq l r) = places_equal columns width l r (column_place columns l) (column_place columns r) refl refl
equated_passes columns width (binary two.Ne l r) = tt
equated_passes columns width (binary two.Lt l r) = tt
equated_passes columns width (binary two.Le l r) = tt
equated_passes columns width (binary two.Gt l r) = tt
equated_passes columns width (binary two.Ge l r) = tt
equated_passes columns width (binary two.Add l r) = tt
equated_passes columns width (binary two.Sub l r) = tt
equated_passes columns width (binary two.Mul l r) = tt
equated_passes columns width (binary two.Div l r) = tt
equated_passes columns width (binary two.BitAnd l r) = tt
equated_passes columns width (binary two.BitOr l r) = tt
equated_passes columns width (binary two.BitXor l r) = tt
equated_passes columns width (binary two.Shl l r) = tt
equated_passes columns width (binary two.Shr l r) = tt

-- the equations of a condition hold in each row that meets it
equation_holds : (columns : List ColumnDef) (row : List Value) (l r : Expression) (o u : Option ℕ) → column_place columns l ≡ o → column_place columns r ≡ u
    → is_true (truth (same (value_of (value_in columns row) l) (value_of (value_in columns row) r))) ≡ true → AllByRecursion (AreEqualAt row) (both_places o u)
equation_holds columns row l r None u hl hr t = tt
equation_holds columns row l r (Some p) None hl hr t = tt
equation_holds columns row l r (Some p) (Some q) hl hr t = (moved _ _ _ _ (place_value columns l p hl row) (place_value columns r q hr row) (true_of _ t), tt)

pub equations_hold : (columns : List ColumnDef) (row : List Value) (e : Expression) → meets columns (Some e) row ≡ true → AllByRecursion (AreEqualAt row) (equations columns e)
equations_hold columns row (literal v) t = tt
equations_hold columns row (column n) t = tt
equations_hold columns row (unary op e) t = tt
equations_hold columns row (either l r) t = tt
equations_hold columns row (both l r) t =
    let parts = true_both _ _ t in
    all_joined (AreEqualAt row) (equations columns l) (equations columns r) (equations_hold columns row l parts.0) (equations_hold columns row r parts.1)
equations_hold columns row (binary two.Eq l r) t = equation_holds columns row l r (column_place columns l) (column_place columns r) refl refl t
equations_hold columns row (binary two.Ne l r) t = tt
equations_hold columns row (binary two.Lt l r) t = tt
equations_hold columns row (binary two.Le l r) t = tt
equations_hold columns row (binary two.Gt l r) t = tt
equations_hold columns row (binary two.Ge l r) t = tt
equations_hold columns row (binary two.Add l r) t = tt
equations_hold columns row (binary two.Sub l r) t = tt
equations_hold columns row (binary two.Mul l r) t = tt
equations_hold columns row (binary two.Div l r) t = tt
equations_hold columns row (binary two.BitAnd l r) t = tt
equations_hold columns row (binary two.BitOr l r) t = tt
equations_hold columns row (binary two.BitXor l r) t = tt
equations_hold columns row (binary two.Shl l r) t = tt
equations_hold columns row (binary two.Shr l r) t = tt
