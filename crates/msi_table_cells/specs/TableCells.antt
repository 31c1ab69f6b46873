-- Tables as they are kept, by their cells.
use Rattle.std.specs.Prelude.{List, Option}
use Rattle.msi_table_cells.specs.declared.cell.ValueRef.{ValueRef}
use Rattle.msi_table_values.specs.Columns.{ColumnDef}

-- a table as it is kept; no rows where it can't be read
pub record TableCells : Type 0 where
  pub columns : List ColumnDef
  pub rows : Option (List (List ValueRef))
