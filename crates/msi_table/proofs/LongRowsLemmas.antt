-- Rows that fit a table go on to fit it when its references get long.
use Rattle.std.proofs.Common.{ℕ, ◌<◌, Bool, true, false, List, [], ◌∷◌, arith}
use Rattle.std.specs.List.{AllByRecursion}
use Rattle.msi_table_values.specs.declared.column.ColumnType.{ColumnType}
use Rattle.msi_table_values.specs.declared.column.ColumnType.TheVariants as coltype
use Rattle.msi_table_cells.specs.declared.cell.ValueRef.{ValueRef}
use Rattle.msi_table_cells.specs.declared.cell.ValueRef.TheVariants as cell
use Rattle.msi_table_cells.specs.Fitting.{FitsColumn, FitsRow, FitsTable, reference_bound}

number_fits_long : (long : Bool) (n : ℕ) → n < reference_bound long → n < reference_bound true
number_fits_long true n h = h
number_fits_long false n h = omega (arith, h)

cell_fits_long : (long : Bool) (type : ColumnType) (c : ValueRef) → FitsColumn long type c → FitsColumn true type c
cell_fits_long long coltype.Int16 cell.Null h = tt
cell_fits_long long coltype.Int16 (cell.Int n) h = h
cell_fits_long long coltype.Int16 (cell.Str n) h = absurd h
cell_fits_long long coltype.Int16 cell.Binary h = absurd h
cell_fits_long long coltype.Int32 cell.Null h = tt
cell_fits_long long coltype.Int32 (cell.Int n) h = h
cell_fits_long long coltype.Int32 (cell.Str n) h = absurd h
cell_fits_long long coltype.Int32 cell.Binary h = absurd h
cell_fits_long long (coltype.Str k) cell.Null h = tt
cell_fits_long long (coltype.Str k) (cell.Int n) h = absurd h
cell_fits_long long (coltype.Str k) (cell.Str n) h = (h.0, number_fits_long long n h.1)
cell_fits_long long (coltype.Str k) cell.Binary h = absurd h
cell_fits_long long coltype.Binary cell.Null h = absurd h
cell_fits_long long coltype.Binary (cell.Int n) h = absurd h
cell_fits_long long coltype.Binary (cell.Str n) h = absurd h
cell_fits_long long coltype.Binary cell.Binary h = tt

row_fits_long : (long : Bool) (types : List ColumnType) (row : List ValueRef) → FitsRow long types row → FitsRow true types row
row_fits_long long [] [] h = tt
row_fits_long long [] (c ∷ cs) h = absurd h
row_fits_long long (t ∷ ts) [] h = absurd h
row_fits_long long (t ∷ ts) (c ∷ cs) h = (cell_fits_long long t c h.0, row_fits_long long ts cs h.1)

pub each_fits_long : (long : Bool) (types : List ColumnType) (rows : List (List ValueRef)) → AllByRecursion (FitsRow long types) rows → AllByRecursion (FitsRow true types) rows
each_fits_long long types [] h = tt
each_fits_long long types (r ∷ rs) h = (row_fits_long long types r h.0, each_fits_long long types rs h.1)

pub fits_long : (long : Bool) (types : List ColumnType) (rows : List (List ValueRef)) → FitsTable long types rows → FitsTable true types rows
fits_long long types rows h = record { some_column = h.some_column; few_rows = h.few_rows; each_row = each_fits_long long types rows h.each_row }
