-- What holds of the orders of rows.
use Rattle.std.specs.Prelude.{◌≡◌, ◌⊎◌, ◌↔◌, Bool, false, List, ◌∷◌, IsPermutation}
use Rattle.std.specs.List.{AllByRecursion}
use Rattle.std.specs.List.Sorted.{IsSorted, IsSortedByKey, IsStable}
use Rattle.std.specs.declared.cmp.Ordering.{Ordering}
use Rattle.msi_pool.specs.Pool.{Place}
use Rattle.msi_table_values.specs.declared.column.ColumnType.{ColumnType}
use Rattle.msi_table_values.specs.declared.column.ColumnType.TheVariants as coltype
use Rattle.msi_table_cells.specs.declared.cell.ValueRef.{ValueRef}
use Rattle.msi_table_cells.specs.Fitting.{cell_of, FitsRow}
use Rattle.msi_table_cells.specs.CellValues.{value_of_cell}
use Rattle.msi_table_values.specs.Columns.{ColumnDef, types_of, is_of_category_binary}
use Rattle.msi_table_cells.specs.KeyOrder.{in_key_order, key_cmp}
use Rattle.msi_table_cells.specs.StoredOrder.{in_stored_order, row_cmp}
use Rattle.msi_table_values.specs.Values.{value_cmp}

-- the same elements, none less than the one before it, and those that tie as they stood
pub record IsStableSort {X : Type 0} (cmp : X → X → Ordering) (xs sorted : List X) : Type 0 where
  pub moved : IsPermutation xs sorted
  pub ascends : IsSorted cmp sorted
  pub stable : IsStable cmp xs sorted

-- the stored order is the one stable sort of the rows by their cells, and the order of keys the one by their key values
abbrev pub StoredRowsAreSorted : Type 0
StoredRowsAreSorted = (columns : List ColumnDef) (rows sorted : List (List ValueRef))
    → (sorted ≡ in_stored_order columns rows) ↔ IsStableSort (row_cmp columns) rows sorted

abbrev pub RowsAreSortedByKeys : Type 0
RowsAreSortedByKeys = (columns : List ColumnDef) (places : List Place) (rows sorted : List (List ValueRef))
    → (sorted ≡ in_key_order columns places rows) ↔ IsStableSort (key_cmp columns places) rows sorted

abbrev pub HoldsNumbers : ColumnType → Type 0
HoldsNumbers type = (type ≡ coltype.Int16) ⊎ (type ≡ coltype.Int32)

-- the values of a first column of numbers that isn't of category Binary ascend in stored order
abbrev pub LeadingNumbersAscend : Type 0
LeadingNumbersAscend = (long : Bool) (first : ColumnDef) (others : List ColumnDef) (places : List Place)
    (rows : List (List ValueRef)) → HoldsNumbers first.coltype → is_of_category_binary first.category ≡ false
    → AllByRecursion (FitsRow long (types_of (first ∷ others))) rows
    → IsSortedByKey (λ row. value_of_cell places (cell_of row 0)) value_cmp (in_stored_order (first ∷ others) rows)
