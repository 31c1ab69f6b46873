-- The orders of rows: each is the one stable sort, and a first column of numbers ascends.
use Rattle.std.proofs.Common.{◌≡◌, ℕ, ◌+◌, ◌<◌, zero, suc, length, Bool, false, List, [], ◌∷◌, refl, sym, ap, ◌∙◌, arith, Ordering, ⊎_elim}
use Rattle.std.specs.Prelude.{slice_index_or, ⊤}
use Rattle.std.specs.List.{AllByRecursion}
use Rattle.std.specs.List.Sorted.{IsSortedByKey}
use Rattle.std.specs.Ordering.{is_lt, ordering_then}
use Rattle.std.specs.declared.cmp.Ordering.TheVariants.{Less, Equal, Greater}
use Rattle.msi_pool.specs.Pool.{Place}
use Rattle.msi_table_values.specs.declared.column.ColumnType.{ColumnType}
use Rattle.msi_table_values.specs.declared.column.ColumnType.TheVariants as coltype
use Rattle.msi_table_cells.specs.declared.cell.ValueRef.{ValueRef}
use Rattle.msi_table_cells.specs.declared.cell.ValueRef.TheVariants as cell
use Rattle.msi_table_cells.specs.Fitting.{cell_of, FitsColumn, FitsRow}
use Rattle.msi_table_cells.specs.CellValues.{value_of_cell}
use Rattle.msi_table_values.specs.Columns.{ColumnDef, types_of, is_of_category_binary}
use Rattle.msi_table_cells.specs.KeyOrder.{key_cmp}
use Rattle.msi_table_cells.specs.SortedRows.{HoldsNumbers, LeadingNumbersAscend, RowsAreSortedByKeys, StoredRowsAreSorted}
use Rattle.msi_table_cells.specs.CellOrder.{cell_cmp}
use Rattle.msi_table_cells.specs.StoredOrder.{in_stored_order, ordering_cells, row_cmp}
use Rattle.msi_table_values.specs.Values.{value_cmp}
use Rattle.msi_table_cells.proofs.RowOrderLemmas.{row_cmp-weak, key_cmp-weak}
use Rattle.msi_table_cells.proofs.StableSortLemmas.{all_sorted, only_stable_sort}

pub all_at : {X : Type 0} (P : X → Type 0) (xs : List X) (i : ℕ) (d : X) → AllByRecursion P xs → i < length xs → P (slice_index_or xs i d)
all_at P [] i d h l = absurd (omega arith)
all_at P (x ∷ xs) zero d h l = h.0
all_at P (x ∷ xs) (suc i) d h l = all_at P xs i d h.1 (omega arith)

pub stored_sorted : StoredRowsAreSorted
stored_sorted columns rows sorted = only_stable_sort (row_cmp columns) (row_cmp-weak columns) rows sorted

pub sorted_by_keys : RowsAreSortedByKeys
sorted_by_keys columns places rows sorted = only_stable_sort (key_cmp columns places) (key_cmp-weak columns places) rows sorted

-- null or a number
abbrev IsNumber : ValueRef → Type 0
IsNumber cell.Null = ⊤
IsNumber (cell.Int n) = ⊤
IsNumber (cell.Str n) = ⊥
IsNumber cell.Binary = ⊥

text_holds_none : {P : Type 0} (k : ℕ) → HoldsNumbers (coltype.Str k) → P
text_holds_none k h = ⊎_elim (λ e. cc) (λ e. cc) h

binary_holds_none : {P : Type 0} → HoldsNumbers coltype.Binary → P
binary_holds_none h = ⊎_elim (λ e. cc) (λ e. cc) h

number_if_fits : (long : Bool) (type : ColumnType) (c : ValueRef) → HoldsNumbers type → FitsColumn long type c → IsNumber c
number_if_fits long type cell.Null h f = tt
number_if_fits long type (cell.Int n) h f = tt
number_if_fits long coltype.Int16 (cell.Str n) h f = f
number_if_fits long coltype.Int32 (cell.Str n) h f = f
number_if_fits long (coltype.Str k) (cell.Str n) h f = text_holds_none k h
number_if_fits long coltype.Binary (cell.Str n) h f = f
number_if_fits long coltype.Int16 cell.Binary h f = f
number_if_fits long coltype.Int32 cell.Binary h f = f
number_if_fits long (coltype.Str k) cell.Binary h f = f
number_if_fits long coltype.Binary cell.Binary h f = binary_holds_none h

-- such cells are ordered as their values
numbers_alike : (places : List Place) (c d : ValueRef) → IsNumber c → IsNumber d → cell_cmp c d ≡ value_cmp (value_of_cell places c) (value_of_cell places d)
numbers_alike places cell.Null cell.Null p q = refl
numbers_alike places cell.Null (cell.Int n) p q = refl
numbers_alike places (cell.Int m) cell.Null p q = refl
numbers_alike places (cell.Int m) (cell.Int n) p q = refl
numbers_alike places cell.Null (cell.Str t) p q = absurd q
numbers_alike places cell.Null cell.Binary p q = absurd q
numbers_alike places (cell.Int m) (cell.Str t) p q = absurd q
numbers_alike places (cell.Int m) cell.Binary p q = absurd q
numbers_alike places (cell.Str s) d p q = absurd p
numbers_alike places cell.Binary d p q = absurd p

pub first_not_less : (o rest : Ordering) → is_lt (ordering_then o rest) ≡ false → is_lt o ≡ false
first_not_less Less rest e = e
first_not_less Equal rest e = refl
first_not_less Greater rest e = refl

module _ (long : Bool) (first : ColumnDef) (others : List ColumnDef) (numbers : HoldsNumbers first.coltype) (ordered : is_of_category_binary first.category ≡ false) where
  abbrev columns : List ColumnDef
  columns = first ∷ others

  abbrev Fits : List ValueRef → Type 0
  Fits row = FitsRow long (types_of columns) row

  ordering_cells-cons : (c : ValueRef) (cs : List ValueRef) → ordering_cells columns (c ∷ cs) ≡ c ∷ ordering_cells others cs
  ordering_cells-cons c cs = rw ordered refl

  first_ascends : (places : List Place) (row next : List ValueRef) → Fits row → Fits next → is_lt (row_cmp columns next row) ≡ false
      → is_lt (value_cmp (value_of_cell places (cell_of next 0)) (value_of_cell places (cell_of row 0))) ≡ false
  first_ascends places [] next f g e = absurd f
  first_ascends places (c ∷ cs) [] f g e = absurd g
  first_ascends places (c ∷ cs) (d ∷ ds) f g e =
      ap is_lt (sym (numbers_alike places d c (number_if_fits long first.coltype d numbers g.0) (number_if_fits long first.coltype c numbers f.0)))
      ∙ first_not_less (cell_cmp d c) _ (rw (ordering_cells-cons d ds, ordering_cells-cons c cs) at e)

  leading_ascends : (places : List Place) (rows : List (List ValueRef)) → AllByRecursion Fits rows → IsSortedByKey (λ row. value_of_cell places (cell_of row 0)) value_cmp (in_stored_order columns rows)
  leading_ascends places rows fits k d l h =
      let stored : List (List ValueRef) = in_stored_order columns rows in
      let all : AllByRecursion Fits stored = all_sorted (row_cmp columns) (row_cmp-weak columns) Fits rows fits in
      first_ascends places (slice_index_or stored k d) (slice_index_or stored (k + 1) d) (all_at Fits stored k d all (omega arith)) (all_at Fits stored (k + 1) d all h)
      (((stored_sorted columns rows stored).0 refl).ascends k d l h)

pub leading_numbers_ascend : LeadingNumbersAscend
leading_numbers_ascend long first others places rows numbers ordered fits = leading_ascends long first others numbers ordered places rows fits
