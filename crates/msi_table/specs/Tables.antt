-- Tables and the bytes of their streams.
use Rattle.std.specs.Prelude.{◌≡◌, ℕ, ◌<◌, Bool, true, List, length, Option, Some, None, All, nat_le, if◌then◌else◌}
use Rattle.msi_table_cells.specs.declared.cell.ValueRef.{ValueRef}
use Rattle.msi_table.specs.Cells.{rows_in, table_bytes}
use Rattle.msi_table_values.specs.Columns.{ColumnDef, most_columns, types_of}
use Rattle.msi_table_cells.specs.Fitting.{FitsTable}
use Rattle.msi_table.specs.Rows.{AreAsWide}
use Rattle.msi_table_cells.specs.StoredOrder.{in_stored_order}

-- a table: its references to texts are long where those of the pool are
pub record TableDef : Type 0 where
  pub name : List ℕ
  pub columns : List ColumnDef
  pub long : Bool

-- the same table with references of three bytes
abbrev pub long_table_of : TableDef → TableDef
long_table_of t = record t { long = true }

-- a table of its parts, where its columns are few enough
abbrev pub table_of : List ℕ → List ColumnDef → Bool → Option TableDef
table_of name columns long = if nat_le (length columns) most_columns
    then Some (record { name = name; columns = columns; long = long })
    else None

-- the bytes of rows in their stored order
abbrev pub stored_bytes : Bool → List ColumnDef → List (List ValueRef) → List ℕ
stored_bytes long columns rows = table_bytes long (types_of columns) (in_stored_order columns rows)

-- the rows that bytes spell in a table, and whether rows can be stored in it
abbrev pub rows_spelled : TableDef → List ℕ → Option (List (List ValueRef))
rows_spelled t bytes = rows_in t.long (types_of t.columns) bytes

abbrev pub CanStore : TableDef → List (List ValueRef) → Type 0
CanStore t rows = FitsTable t.long (types_of t.columns) rows

-- rows that are read have a cell for each column, and can be stored again
abbrev pub ReadRowsFit : Type 0
ReadRowsFit = (long : Bool) (columns : List ColumnDef) (bytes : List ℕ) (rows : List (List ValueRef))
    → rows_in long (types_of columns) bytes ≡ Some rows
    → AreAsWide columns rows × (0 < length columns → All (λ b. b < 256) bytes → FitsTable long (types_of columns) rows)
