-- The values that a record gives a row, column by column.
use Rattle.std.proofs.Common.{◌≡◌, ℕ, ◌+◌, ◌<◌, ◌≤◌, List, [], ◌∷◌, ◌++◌, length, map, drop, get_or, zip, refl, sym, ap, ◌∙◌, ◌⊎◌, inl, inr}
use Rattle.std.proofs.lemmas.List.{append-nil, append_assoc, drop_all, drop_more}
use Rattle.msi_table_cells.specs.declared.cell.ValueRef.{ValueRef}
use Rattle.msi_table_values.specs.declared.value.Value.{Value}
use Rattle.msi_table_values.specs.Columns.{ColumnDef}
use Rattle.msi_transform.specs.Transforms.{value_in}
use Rattle.msi_transform_rows.specs.RowChanges.{TableChange, held_in}

-- those of the columns and cells from one on
abbrev pub values_from : TableChange → List ValueRef → ℕ → List Value
values_from change cells i = map held_in (zip (drop i change.columns) (map (value_in change.by) (drop i cells)))

rest_is : {X : Type 0} (xs : List X) (i : ℕ) (x : X) → i < length xs → x ≡ get_or xs i x → drop i xs ≡ x ∷ drop (i + 1) xs
rest_is xs i x inside at = drop_more xs i x inside ∙ ap (λ y. y ∷ drop (i + 1) xs) (sym at)

pub one_more_value : (change : TableChange) (cells : List ValueRef) (i : ℕ) (column : ColumnDef) (cell : ValueRef) (value : Value) (before after whole : List Value)
    → i < length change.columns → i < length cells → column ≡ get_or change.columns i column → cell ≡ get_or cells i cell
    → value ≡ held_in (column, value_in change.by cell) → after ≡ before ++ value ∷ []
    → before ++ values_from change cells i ≡ whole → after ++ values_from change cells (i + 1) ≡ whole
one_more_value change cells i column cell value before after whole in_columns in_cells at_column at_cell is pushed all =
    let rest = values_from change cells (i + 1) in
    ap (λ (values : List Value). values ++ rest) pushed ∙ append_assoc before (value ∷ []) rest
    ∙ ap (λ (v : Value). before ++ v ∷ rest) is
    ∙ ap (λ (columns : List ColumnDef). before ++ map held_in (zip columns (map (value_in change.by) (cell ∷ drop (i + 1) cells)))) (sym (rest_is change.columns i column in_columns at_column))
    ∙ ap (λ (left : List ValueRef). before ++ map held_in (zip (drop i change.columns) (map (value_in change.by) left))) (sym (rest_is cells i cell in_cells at_cell))
    ∙ all

abbrev none_of_values : List Value
none_of_values = []

no_pairs : (columns : List ColumnDef) → zip columns none_of_values ≡ []
no_pairs [] = refl
no_pairs (x ∷ columns) = refl

nothing_left : (change : TableChange) (cells : List ValueRef) (i : ℕ) → (length change.columns ≤ i) ⊎ (length cells ≤ i) → values_from change cells i ≡ []
nothing_left change cells i (inl past) =
    ap (λ (columns : List ColumnDef). map held_in (zip columns (map (value_in change.by) (drop i cells)))) (drop_all i change.columns past)
nothing_left change cells i (inr past) =
    ap (λ (left : List ValueRef). map held_in (zip (drop i change.columns) (map (value_in change.by) left))) (drop_all i cells past)
    ∙ ap (map held_in) (no_pairs (drop i change.columns))

pub all_values : (change : TableChange) (cells : List ValueRef) (i : ℕ) (values whole : List Value) → (length change.columns ≤ i) ⊎ (length cells ≤ i)
    → values ++ values_from change cells i ≡ whole → values ≡ whole
all_values change cells i values whole past is =
    sym (ap (λ (rest : List Value). values ++ rest) (nothing_left change cells i past) ∙ append-nil values) ∙ is
