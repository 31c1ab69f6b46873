-- Rows of cells that fit their columns have the kinds that tell rows apart.
use Rattle.std.proofs.Common.{◌≡◌, ℕ, Bool, true, false, List, [], ◌∷◌, refl}
use Rattle.std.specs.Prelude.{◌||◌, map, bytes_eq}
use Rattle.std.specs.List.{AllByRecursion, list_any}
use Rattle.std.proofs.lemmas.Bool.{or_parts, and_parts}
use Rattle.msi_pool.specs.Pool.{Place}
use Rattle.msi_table_cells.specs.declared.cell.ValueRef.{ValueRef}
use Rattle.msi_table_cells.specs.declared.cell.ValueRef.TheVariants as cell
use Rattle.msi_table_values.specs.declared.value.Value.{Value}
use Rattle.msi_table_values.specs.declared.value.Value.TheVariants as value
use Rattle.msi_table_values.specs.declared.column.ColumnType.{ColumnType}
use Rattle.msi_table_values.specs.declared.column.ColumnType.TheVariants as coltype
use Rattle.msi_table_cells.specs.CellValues.{value_of_cell, row_values}
use Rattle.msi_table_values.specs.Columns.{ColumnDef, types_of}
use Rattle.msi_table_cells.specs.Fitting.{FitsColumn, FitsRow}
use Rattle.msi_database_schema.specs.System.{columns_columns, validation_columns}
use Rattle.msi_database_changes.specs.Database.{are_alike, same_kind}
use Rattle.msi_database_schema.specs.Schema.{SchemaRows, has_null, lacks_value, number_of, text_of}
use Rattle.msi_table_values.specs.Values.{is_null}
use Rattle.msi_database_schema.proofs.SchemaLemmas.{NoFault}
use Rattle.msi_database_schema.proofs.OrderlessLemmas.{HasKinds, IsColumnRow, IsValidationRow}

text_cell : (long : Bool) (n : ℕ) (places : List Place) (c : ValueRef) → FitsColumn long (coltype.Str n) c → is_null (value_of_cell places c) ≡ false → value_of_cell places c ≡ value.Str (text_of (value_of_cell places c))
text_cell long n places cell.Null f e = cc
text_cell long n places (cell.Int m) f e = absurd f
text_cell long n places (cell.Str m) f e = refl
text_cell long n places cell.Binary f e = absurd f

number_cell : (long : Bool) (places : List Place) (c : ValueRef) → FitsColumn long coltype.Int16 c → is_null (value_of_cell places c) ≡ false → value_of_cell places c ≡ value.Int (number_of (value_of_cell places c))
number_cell long places cell.Null f e = cc
number_cell long places (cell.Int m) f e = refl
number_cell long places (cell.Str m) f e = absurd f
number_cell long places cell.Binary f e = absurd f

column_row : (long : Bool) (places : List Place) (cells : List ValueRef) → FitsRow long (types_of columns_columns) cells → list_any is_null (row_values places cells) ≡ false → IsColumnRow (row_values places cells)
column_row long places [] f e = absurd f
column_row long places (a ∷ []) f e = absurd (f.1)
column_row long places (a ∷ b ∷ cs) f e =
    let g = or_parts (is_null (value_of_cell places a)) _ e in
    let h = or_parts (is_null (value_of_cell places b)) (list_any is_null (row_values places cs)) g.1 in
    (text_cell long 64 places a (f.0) g.0, number_cell long places b (f.1.0) h.0)

validation_row : (s : SchemaRows) (long : Bool) (places : List Place) (cells : List ValueRef) → FitsRow long (types_of validation_columns) cells → lacks_value s (row_values places cells) ≡ false → IsValidationRow (row_values places cells)
validation_row s long places [] f e = absurd f
validation_row s long places (a ∷ []) f e = absurd (f.1)
validation_row s long places (a ∷ b ∷ cs) f e =
    let g = or_parts (is_null (value_of_cell places a) || is_null (value_of_cell places b)) _ e in
    let h = or_parts (is_null (value_of_cell places a)) (is_null (value_of_cell places b)) g.0 in
    (text_cell long 32 places a (f.0) h.0, text_cell long 32 places b (f.1.0) h.1)

column_rows : (long : Bool) (places : List Place) (rows : List (List ValueRef)) → AllByRecursion (FitsRow long (types_of columns_columns)) rows → has_null (map (row_values places) rows) ≡ false → AllByRecursion IsColumnRow (map (row_values places) rows)
column_rows long places [] f e = tt
column_rows long places (r ∷ rs) f e = let g = or_parts _ _ e in (column_row long places r (f.0) (g.0), column_rows long places rs (f.1) (g.1))

validation_rows : (s : SchemaRows) (long : Bool) (places : List Place) (rows : List (List ValueRef)) → AllByRecursion (FitsRow long (types_of validation_columns)) rows → list_any (lacks_value s) (map (row_values places) rows) ≡ false → AllByRecursion IsValidationRow (map (row_values places) rows)
validation_rows s long places [] f e = tt
validation_rows s long places (r ∷ rs) f e = let g = or_parts _ _ e in (validation_row s long places r (f.0) (g.0), validation_rows s long places rs (f.1) (g.1))

-- where no rule is broken, and each cell of `_Columns` and of `_Validation` fits its standard column
pub kinds_from_cells : (tables : List (List Value)) (long : Bool) (places : List Place) (columns validation : List (List ValueRef))
    → AllByRecursion (FitsRow long (types_of columns_columns)) columns → AllByRecursion (FitsRow long (types_of validation_columns)) validation
    → NoFault (record { tables = tables; columns = map (row_values places) columns; validation = map (row_values places) validation })
    → HasKinds (record { tables = tables; columns = map (row_values places) columns; validation = map (row_values places) validation })
kinds_from_cells tables long places columns validation f g n = record {
  columns = column_rows long places columns f n.columns_full;
  validation = validation_rows (record { tables = tables; columns = map (row_values places) columns; validation = map (row_values places) validation }) long places validation g n.validation_full;
}

-- cells fit columns of one kind alike
fits_kind : (long : Bool) (s t : ColumnType) (c : ValueRef) → same_kind s t ≡ true → FitsColumn long s c → FitsColumn long t c
fits_kind long coltype.Int16 coltype.Int16 c e f = f
fits_kind long coltype.Int32 coltype.Int32 c e f = f
fits_kind long (coltype.Str m) (coltype.Str n) cell.Null e f = f
fits_kind long (coltype.Str m) (coltype.Str n) (cell.Int k) e f = f
fits_kind long (coltype.Str m) (coltype.Str n) (cell.Str k) e f = f
fits_kind long (coltype.Str m) (coltype.Str n) cell.Binary e f = f
fits_kind long coltype.Binary coltype.Binary c e f = f
fits_kind long coltype.Int16 coltype.Int32 c e f = cc
fits_kind long coltype.Int16 (coltype.Str n) c e f = cc
fits_kind long coltype.Int16 coltype.Binary c e f = cc
fits_kind long coltype.Int32 coltype.Int16 c e f = cc
fits_kind long coltype.Int32 (coltype.Str n) c e f = cc
fits_kind long coltype.Int32 coltype.Binary c e f = cc
fits_kind long (coltype.Str m) coltype.Int16 c e f = cc
fits_kind long (coltype.Str m) coltype.Int32 c e f = cc
fits_kind long (coltype.Str m) coltype.Binary c e f = cc
fits_kind long coltype.Binary coltype.Int16 c e f = cc
fits_kind long coltype.Binary coltype.Int32 c e f = cc
fits_kind long coltype.Binary (coltype.Str n) c e f = cc

pub fits_alike : (long : Bool) (columns others : List ColumnDef) (cells : List ValueRef) → are_alike columns others ≡ true → FitsRow long (types_of columns) cells → FitsRow long (types_of others) cells
fits_alike long [] [] cells e f = f
fits_alike long [] (d ∷ ds) cells e f = cc
fits_alike long (c ∷ cs) [] cells e f = cc
fits_alike long (c ∷ cs) (d ∷ ds) [] e f = absurd f
fits_alike long (c ∷ cs) (d ∷ ds) (x ∷ xs) e f =
    let g = and_parts _ (are_alike cs ds) e in
    let kind : same_kind c.coltype d.coltype ≡ true = (and_parts (bytes_eq c.name d.name) _ ((and_parts _ _ (g.0)).0)).1 in
    (fits_kind long c.coltype d.coltype x kind (f.0), fits_alike long cs ds xs (g.1) (f.1))
