-- Rows that fit their columns fit them in stored order.
use Rattle.std.proofs.Common.{List, arith}
use Rattle.msi_table_values.specs.declared.column.ColumnType.{ColumnType}
use Rattle.msi_table_cells.specs.declared.cell.ValueRef.{ValueRef}
use Rattle.msi_table_values.specs.Columns.{ColumnDef}
use Rattle.msi_table_cells.specs.StoredOrder.{row_cmp, in_stored_order}
use Rattle.msi_table_cells.specs.Fitting.{FitsRow, FitsTable}
use Rattle.msi_table_cells.proofs.RowOrderLemmas.{row_cmp-weak}
use Rattle.msi_table_cells.proofs.StableSortLemmas.{all_sorted, length_sorted}
use Rattle.std.proofs.Common.{Bool}

pub sorted_fits : (columns : List ColumnDef) (long : Bool) (types : List ColumnType) (rows : List (List ValueRef)) → FitsTable long types rows → FitsTable long types (in_stored_order columns rows)
sorted_fits columns long types rows f = record {
  some_column = f.some_column;
  few_rows = let e = length_sorted (row_cmp columns) (row_cmp-weak columns) rows in omega arith;
  each_row = all_sorted (row_cmp columns) (row_cmp-weak columns) (FitsRow long types) rows f.each_row;
}
