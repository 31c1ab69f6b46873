-- What holds of values that are stored as cells, and of cells beside them.
use Rattle.std.specs.Prelude.{◌≡◌, ℕ, ◌≤◌, ◌==◌, Bool, true, false, List, ◌∷◌, length, Some, count_by}
use Rattle.msi_pool.specs.Pool.{Place}
use Rattle.msi_pool.specs.FirstFit.{most_places}
use Rattle.msi_pool.specs.FirstFitLaws.{count_at}
use Rattle.msi_table_values.specs.declared.value.Value.{Value}
use Rattle.msi_table_cells.specs.declared.cell.ValueRef.{ValueRef}
use Rattle.msi_table_cells.specs.declared.cell.ValueRef.TheVariants as cell
use Rattle.msi_table_values.specs.Columns.{ColumnDef}
use Rattle.msi_table_cells.specs.CellValues.{value_of_cell, row_values, cell_of_value, places_without}
use Rattle.msi_table_cells.specs.Fitting.{FitsColumn}
use Rattle.msi_table_values.specs.ValidValues.{is_valid_value}

-- the cell of a value stands for the value
abbrev pub StoredValuesComeBack : Type 0
StoredValuesComeBack = (long : Bool) (before after : List Place) (value : Value) (c : ValueRef)
    → cell_of_value long before value ≡ Some (c, after) → value_of_cell after c ≡ value

-- where the pool is no larger than references can name, the cell of a valid value can be stored
abbrev pub ValidValuesFit : Type 0
ValidValuesFit = (column : ColumnDef) (long : Bool) (before after : List Place) (value : Value) (c : ValueRef)
    → is_valid_value column value ≡ true → length before ≤ most_places long
    → cell_of_value long before value ≡ Some (c, after)
    → FitsColumn long column.coltype c × (length after ≤ most_places long)

-- how many of the cells name the place of a number
abbrev pub is_naming : ℕ → ValueRef → Bool
is_naming number (cell.Str n) = n == number
is_naming number _ = false

abbrev pub cells_naming : ℕ → List ValueRef → ℕ
cells_naming number cells = count_by (is_naming number) cells

-- cells name places from 1 on, none more often than its count says
pub record CountsSuffice (places : List Place) (cells : List ValueRef) : Type 0 where
  pub from_one : cells_naming 0 cells ≡ 0
  pub each : (number : ℕ) → cells_naming number cells ≤ count_at places number

-- a value that is stored leaves the values of other cells as they were
abbrev pub StoringKeepsValues : Type 0
StoringKeepsValues = (long : Bool) (before after : List Place) (value : Value) (c : ValueRef) (others : List ValueRef)
    → CountsSuffice before others → cell_of_value long before value ≡ Some (c, after)
    → CountsSuffice after (c ∷ others) × (row_values after others ≡ row_values before others)

-- so does a cell that is removed, which is never refused
abbrev pub RemovingKeepsValues : Type 0
RemovingKeepsValues = (before : List Place) (c : ValueRef) (others : List ValueRef)
    → CountsSuffice before (c ∷ others) → (after : List Place) × (places_without before c ≡ Some after)
    × CountsSuffice after others × (row_values after others ≡ row_values before others)
