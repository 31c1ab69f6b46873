-- That a join that looks rows up by a value finds the same pairs.
use Rattle.std.proofs.Common.{◌≡◌, ℕ, zero, suc, ◌+◌, ◌<◌, Bool, true, List, [], ◌∷◌, ◌++◌, length, map, take, get_or, filter, refl, sym, ap, subst, ◌∙◌, arith, eqb-true}
use Rattle.std.specs.Prelude.{IfSome, Option, Some, None, ◌==◌}
use Rattle.std.specs.List.{AllByRecursion, flat_map}
use Rattle.std.proofs.lemmas.List.{append-nil, length-map, map-append, take_more}
use Rattle.std.proofs.lemmas.List.Concat.{flat_map-append}
use Rattle.std.proofs.lemmas.Bool.{and_parts}
use Rattle.msi_base.proofs.BoolLemmas.{by_test}
use Rattle.msi_base.proofs.ListLemmas.{filter_yes, filter_no, filter_same}
use Rattle.msi_pool.specs.Pool.{Place}
use Rattle.msi_table_cells.specs.declared.cell.ValueRef.{ValueRef}
use Rattle.msi_table_values.specs.declared.value.Value.{Value}
use Rattle.msi_table_cells.specs.CellValues.{value_of_cell, row_values}
use Rattle.msi_table_values.specs.Columns.{ColumnDef}
use Rattle.msi_table_values.specs.OrderLaws.{value_eq-Decides}
use Rattle.msi_query_expressions.specs.declared.joins.JoinKind.{JoinKind}
use Rattle.msi_query_expressions.specs.Conditions.{RowFilterDef, meets, value_at_place}
use Rattle.msi_query_expressions.specs.Equated.{PassesWithEqual}
use Rattle.msi_query_expressions.specs.Expressions.{Expression}
use Rattle.msi_query_rows.specs.Index.{PassWithEqual, has_value, has_width, value_there}
use Rattle.msi_table.specs.Rows.{cell_at}
use Rattle.msi_query.specs.Rows.{rows_values}
use Rattle.msi_query.specs.Selection.{or_nulls, pairs_of, rows_of_row}
use Rattle.msi_query.proofs.SelectionLemmas.{value_of_place}

-- Pairs that a join tries
module _ (places : List Place) (test : List Value → Bool) where
  same_pairs : (p : List ValueRef → Bool) (row : List Value) (right : List (List ValueRef)) → ((other : List ValueRef) → test (row ++ row_values places other) ≡ true → p other ≡ true)
      → pairs_of test (rows_values places (filter p right)) row ≡ pairs_of test (rows_values places right) row
  same_pairs p row [] h = refl
  same_pairs p row (other ∷ right) h = by_test (p other)
      (λ t. ap (λ (rs : List (List ValueRef)). pairs_of test (rows_values places rs) row) (filter_yes p other right t)
      ∙ filter_same test (row ++ row_values places other) _ _ (same_pairs p row right h))
      (λ t. ap (λ (rs : List (List ValueRef)). pairs_of test (rows_values places rs) row) (filter_no p other right t)
      ∙ same_pairs p row right h
      ∙ sym (filter_no test (row ++ row_values places other) (map (λ o. row ++ o) (rows_values places right))
      (by_test (test (row ++ row_values places other)) (λ u. let f : p other ≡ true = h other u in cc) (λ u. u))))

  asked_value : (left : List (List ValueRef)) (at : ℕ × ℕ) (i : ℕ) (d other : List ValueRef) → PassWithEqual places test left at → i < length left
      → test (row_values places (get_or left i d) ++ row_values places other) ≡ true → has_value places at.1 (value_there places at.0 (get_or left i d)) other ≡ true
  asked_value [] at i d other w l t = absurd (omega arith)
  asked_value (row ∷ left) at (suc i) d other w l t = asked_value left at i d other w.1 (omega arith) t
  asked_value (row ∷ left) at zero d other w l t =
      let e : value_at_place (row_values places row) at.0 ≡ value_at_place (row_values places other) at.1 = (value_eq-Decides _ _).0 (w.0 (row_values places other) t) in
      (value_eq-Decides (value_there places at.1 other) (value_there places at.0 row)).1
      (value_of_place places other (Some at.1) ∙ sym e ∙ sym (value_of_place places row (Some at.0)))

  one_joined : (kind : JoinKind) (n : ℕ) (old new : List (List Value)) (left right found : List (List ValueRef)) (at : ℕ × ℕ) (i : ℕ) (d : List ValueRef)
      → PassWithEqual places test left at → i < length left
      → found ≡ filter (has_value places at.1 (value_there places at.0 (get_or left i d))) right
      → new ≡ old ++ rows_of_row kind test n (rows_values places found) (row_values places (get_or left i d))
      → old ≡ flat_map (rows_of_row kind test n (rows_values places right)) (rows_values places (take i left))
      → new ≡ flat_map (rows_of_row kind test n (rows_values places right)) (rows_values places (take (i + 1) left))
  one_joined kind n old new left right found at i d w l f e s =
      let row : List ValueRef = get_or left i d in
      let give : List Value → List (List Value) = rows_of_row kind test n (rows_values places right) in
      e ∙ ap (λ (rs : List (List ValueRef)). old ++ rows_of_row kind test n (rows_values places rs) (row_values places row)) f
      ∙ ap (λ ps. old ++ or_nulls kind (row_values places row) n ps)
      (same_pairs (has_value places at.1 (value_there places at.0 row)) (row_values places row) right (λ other t. asked_value left at i d other w l t))
      ∙ ap (λ rs. rs ++ give (row_values places row)) s
      ∙ ap (λ rs. flat_map give (rows_values places (take i left)) ++ rs) (sym (append-nil (give (row_values places row))))
      ∙ sym (flat_map-append give (rows_values places (take i left)) (row_values places row ∷ []))
      ∙ sym (ap (flat_map give) (map-append (row_values places) (take i left) (row ∷ [])))
      ∙ ap (λ rs. flat_map give (rows_values places rs)) (sym (take_more left i d l))

  -- one more left row, beside the right rows that were found for it
  pub row_joined : (kind : JoinKind) (n : ℕ) (old new : List (List Value)) (left right found : List (List ValueRef)) (at : ℕ × ℕ) (i : ℕ) (row : List ValueRef) (c : ValueRef)
      → PassWithEqual places test left at → i < length left → row ≡ get_or left i row → c ≡ cell_at row (Some at.0)
      → found ≡ filter (has_value places at.1 (value_of_cell places c)) right
      → new ≡ old ++ rows_of_row kind test n (rows_values places found) (row_values places row)
      → old ≡ flat_map (rows_of_row kind test n (rows_values places right)) (rows_values places (take i left))
      → new ≡ flat_map (rows_of_row kind test n (rows_values places right)) (rows_values places (take (i + 1) left))
  row_joined kind n old new left right found at i row c w l g k f e s =
      one_joined kind n old new left right found at i row w l
      (f ∙ ap (λ (x : ValueRef). filter (has_value places at.1 (value_of_cell places x)) right) (k ∙ ap (λ (r : List ValueRef). cell_at r (Some at.0)) g))
      (e ∙ ap (λ (r : List ValueRef). old ++ rows_of_row kind test n (rows_values places found) (row_values places r)) g) s

-- Left rows of the width of their columns
wide_at : (n : ℕ) (rows : List (List ValueRef)) → has_width n rows ≡ true → AllByRecursion (λ row. length row ≡ n) rows
wide_at n [] e = tt
wide_at n (row ∷ rows) e = let b = and_parts (length row == n) (has_width n rows) e in (eqb-true (length row) n b.0, wide_at n rows b.1)

all_pass : (places : List Place) (test : List Value → Bool) (n : ℕ) (left : List (List ValueRef)) (at : ℕ × ℕ) → AllByRecursion (λ row. length row ≡ n) left
    → PassesWithEqual test n at → PassWithEqual places test left at
all_pass places test n [] at w p = tt
all_pass places test n (row ∷ left) at w p = (λ other t. p (row_values places row) other (length-map row _ ∙ w.0) t, all_pass places test n left at w.1 p)

pub asked_pass : (places : List Place) (test : List Value → Bool) (n : ℕ) (left : List (List ValueRef)) (answer : Option (ℕ × ℕ)) → has_width n left ≡ true
    → IfSome answer (PassesWithEqual test n) → IfSome answer (PassWithEqual places test left)
asked_pass places test n left None w p = tt
asked_pass places test n left (Some at) w p = all_pass places test n left at (wide_at n left w) p

-- by what a call of a join was given
pub filter_passes : (places : List Place) (f : RowFilterDef) (columns : List ColumnDef) (on : Expression) (rows left others : List (List ValueRef)) (at : ℕ × ℕ)
    → f ≡ record { columns = columns; condition = Some on } → left ≡ rows → others ≡ rows
    → PassWithEqual places (meets columns (Some on)) left at → PassWithEqual places (meets f.columns f.condition) others at
filter_passes places f columns on rows left others at e l o w =
    subst (λ (g : RowFilterDef). PassWithEqual places (meets g.columns g.condition) others at) (sym e)
    (subst (λ (rs : List (List ValueRef)). PassWithEqual places (meets columns (Some on)) rs at) (l ∙ sym o) w)
