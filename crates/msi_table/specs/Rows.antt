-- Rows as callers see them, and what an iterator over them gives.
use Rattle.std.specs.Prelude.{◌≡◌, ℕ, ◌<◌, List, [], ◌∷◌, length, map, Option, Some, None, option_and_then, slice_get}
use Rattle.std.specs.Prelude.{option_map, slice_index_or, unwrap_or}
use Rattle.std.specs.declared.result.Result.{Result}
use Rattle.std.specs.declared.result.Result.TheVariants.{Ok, Err}
use Rattle.std.specs.List.{AllByRecursion}
use Rattle.msi_base.specs.declared.errors.ErrorKind.{ErrorKind}
use Rattle.msi_base.specs.declared.errors.ErrorKind.TheVariants.{OutOfMemory}
use Rattle.msi_pool.specs.Pool.{Place}
use Rattle.msi_table_values.specs.declared.value.Value.{Value}
use Rattle.msi_table_cells.specs.declared.cell.ValueRef.{ValueRef}
use Rattle.msi_table_cells.specs.declared.cell.ValueRef.TheVariants as cell
use Rattle.msi_table_values.specs.Columns.{ColumnDef}
use Rattle.msi_table_cells.specs.CellValues.{row_values, value_of_cell}
use Rattle.msi_table_values.specs.Row.{RowDef}

-- the columns of a table, and its rows
pub record TableRows : Type 0 where
  pub columns : List ColumnDef
  pub rows : List (List ValueRef)

abbrev pub table_rows : List ColumnDef → List (List ValueRef) → TableRows
table_rows columns rows = record { columns = columns; rows = rows }

-- the cell at a place, if any, else null
abbrev pub cell_at : List ValueRef → Option ℕ → ValueRef
cell_at row place = unwrap_or (option_and_then (slice_get row) place) cell.Null

abbrev pub cells_at : List (Option ℕ) → List ValueRef → List ValueRef
cells_at places row = map (cell_at row) places

-- the cell of a row in a column, where there is such a row, and such a column
abbrev pub cell_in_row : ℕ → Option (List ValueRef) → Option ValueRef
cell_in_row column row = option_and_then (λ cells. slice_get cells column) row

-- the cells of a row that are picked: those at places, or all
abbrev pub cells_picked : Option (List (Option ℕ)) → List ValueRef → List ValueRef
cells_picked None row = row
cells_picked (Some places) row = cells_at places row

-- the rows of these numbers, counted from 0, or all
abbrev pub rows_numbered : Option (List ℕ) → List (List ValueRef) → List (List ValueRef)
rows_numbered None rows = rows
rows_numbered (Some numbers) rows = map (λ n. slice_index_or rows n []) numbers

abbrev pub rows_picked : Option (List ℕ) → Option (List (Option ℕ)) → List (List ValueRef) → List (List ValueRef)
rows_picked numbers places rows = map (cells_picked places) (rows_numbered numbers rows)

-- each number is one of so many rows
abbrev pub AreRowNumbers : ℕ → Option (List ℕ) → Type 0
AreRowNumbers count None = Unit {0}
AreRowNumbers count (Some numbers) = AllByRecursion (λ n. n < count) numbers

-- all rows, and those that are left, with the pool's places
pub record RowsDef : Type 0 where
  pub columns : List ColumnDef
  pub places : List Place
  pub all : List (List ValueRef)
  pub rows : List (List ValueRef)

-- rows of which none was given yet
abbrev pub rows_from : List ColumnDef → List Place → List (List ValueRef) → RowsDef
rows_from columns places rows = record { columns = columns; places = places; all = rows; rows = rows }

-- the value in a column of the row that is given next, where one is left
abbrev pub value_next : ℕ → RowsDef → Option Value
value_next column rows = option_map (value_of_cell rows.places) (cell_in_row column (slice_get rows.rows 0))

-- each row has a cell for each column
abbrev pub AreAsWide : List ColumnDef → List (List ValueRef) → Type 0
AreAsWide columns rows = AllByRecursion (λ row. length row ≡ length columns) rows

-- a row of the values of the cells at a place
abbrev pub IsRowAt : List ColumnDef → List Place → List (List ValueRef) → ℕ → RowDef → Type 0
IsRowAt columns places rows at row = (cells : List ValueRef) × (slice_get rows at ≡ Some cells)
    × (row ≡ record { columns = columns; values = row_values places cells })

-- the first row is given and the others are left; or, where memory is refused, none is left; or there was none
abbrev pub GivesRow : RowsDef → Option (Result RowDef ErrorKind) → RowsDef → Type 0
GivesRow before None after = (before.rows ≡ []) × (after ≡ before)
GivesRow before (Some (Ok row)) after = (cells : List ValueRef)
    × (before ≡ record after { rows = cells ∷ after.rows })
    × (row ≡ record { columns = before.columns; values = row_values before.places cells })
GivesRow before (Some (Err kind)) after = (kind ≡ OutOfMemory) × (0 < length before.rows)
    × (after ≡ record before { rows = [] })
