-- A test of a database's cells: each fits its column.
use Rattle.std.proofs.Common.{◌≡◌, ◌<◌, Bool, true, false, not, ◌&&◌, List, [], ◌∷◌, length, Option, Some, None, nat_lt, nat_le, arith}
use Rattle.std.specs.Prelude.{IsSomeAnd}
use Rattle.std.specs.List.{AllByRecursion, list_all}
use Rattle.std.proofs.lemmas.Bool.{and_parts}
use Rattle.std.proofs.lemmas.Bool.Decides.{nat_tests}
use Rattle.msi_table_values.specs.declared.column.ColumnType.{ColumnType}
use Rattle.msi_table_values.specs.declared.value.Value.TheVariants.{Int, Str, Binary}
use Rattle.msi_table_cells.specs.declared.cell.ValueRef.{ValueRef}
use Rattle.msi_table_cells.specs.declared.cell.ValueRef.TheVariants as cell
use Rattle.msi_table_values.specs.Columns.{types_of}
use Rattle.msi_table_cells.specs.Fitting.{FitsColumn, FitsRow, FitsTable, reference_bound}
use Rattle.msi_table_values.specs.ValidValues.{fits_type}
use Rattle.msi_table_cells.proofs.StoredValuesLemmas.{fits_int, fits_null, fits_stream}
use Rattle.msi_database_changes.specs.Database.{Database}
use Rattle.msi_table_cells.specs.TableCells.{TableCells}
use Rattle.msi_database_schema.specs.System.{validation_columns}
use Rattle.msi_database_changes.proofs.steps.StoredLemmas.{found_passes}
use Rattle.msi_database_changes.proofs.soundness.PutFitsLemmas.{fits_text}
use Rattle.msi_database_changes.proofs.steps.TracksLemmas.{AllFit}

-- by the kind of its column, and within the width
abbrev pub cell_fits : Bool → ColumnType → ValueRef → Bool
cell_fits long type cell.Null = not (fits_type type Binary)
cell_fits long type (cell.Int n) = fits_type type (Int n)
cell_fits long type (cell.Str number) = fits_type type (Str []) && nat_lt 0 number && nat_lt number (reference_bound long)
cell_fits long type cell.Binary = fits_type type Binary

abbrev pub cells_fit : Bool → List ColumnType → List ValueRef → Bool
cells_fit long [] [] = true
cells_fit long (type ∷ types) (c ∷ cs) = cell_fits long type c && cells_fit long types cs
cells_fit long _ _ = false

abbrev pub rows_fit : Bool → List ColumnType → Option (List (List ValueRef)) → Bool
rows_fit long types None = false
rows_fit long types (Some rows) = nat_lt 0 (length types) && nat_le (length rows) 65536 && list_all (cells_fit long types) rows

abbrev pub all_fit : Database → Bool
all_fit d = list_all (λ t. rows_fit d.pool.long (types_of t.1.columns) t.1.rows) d.tables

abbrev pub unlisted_fit : Database → Bool
unlisted_fit d = list_all (cells_fit d.pool.long (types_of validation_columns)) d.unlisted_validation

cell_fits_is : (long : Bool) (type : ColumnType) (c : ValueRef) → cell_fits long type c ≡ true → FitsColumn long type c
cell_fits_is long type cell.Null e = fits_null long type e
cell_fits_is long type (cell.Int n) e = fits_int long type n e
cell_fits_is long type (cell.Str number) e =
    let p = and_parts (fits_type type (Str []) && nat_lt 0 number) (nat_lt number (reference_bound long)) e in
    let q = and_parts (fits_type type (Str [])) (nat_lt 0 number) p.0 in
    let some : 0 < number = grind (arith, nat_tests, q) in
    let few : number < reference_bound long = grind (arith, nat_tests, p) in
    fits_text long type [] number q.0 (some, few)
cell_fits_is long type cell.Binary e = fits_stream long type e

cells_fit_is : (long : Bool) (types : List ColumnType) (cells : List ValueRef) → cells_fit long types cells ≡ true → FitsRow long types cells
cells_fit_is long [] [] e = tt
cells_fit_is long [] (c ∷ cs) e = cc
cells_fit_is long (t ∷ ts) [] e = cc
cells_fit_is long (t ∷ ts) (c ∷ cs) e = let p = and_parts (cell_fits long t c) (cells_fit long ts cs) e in (cell_fits_is long t c p.0, cells_fit_is long ts cs p.1)

pub each_fits : (long : Bool) (types : List ColumnType) (rows : List (List ValueRef)) → list_all (cells_fit long types) rows ≡ true → AllByRecursion (FitsRow long types) rows
each_fits long types [] e = tt
each_fits long types (r ∷ rs) e = let p = and_parts (cells_fit long types r) (list_all (cells_fit long types) rs) e in (cells_fit_is long types r p.0, each_fits long types rs p.1)

rows_fit_is : (long : Bool) (types : List ColumnType) (o : Option (List (List ValueRef))) → rows_fit long types o ≡ true → IsSomeAnd o (FitsTable long types)
rows_fit_is long types None e = cc
rows_fit_is long types (Some rows) e =
    let p = and_parts (nat_lt 0 (length types) && nat_le (length rows) 65536) (list_all (cells_fit long types) rows) e in
    let q = and_parts (nat_lt 0 (length types)) (nat_le (length rows) 65536) p.0 in
    record { some_column = grind (arith, nat_tests, q); few_rows = grind (arith, nat_tests, q); each_row = each_fits long types rows p.1 }

pub all_fit_is : (d : Database) → all_fit d ≡ true → AllFit d
all_fit_is d e name t found = rows_fit_is d.pool.long (types_of t.columns) t.rows
    (found_passes (λ t. rows_fit d.pool.long (types_of t.1.columns) t.1.rows) (λ (t : TableCells). rows_fit d.pool.long (types_of t.columns) t.rows) (λ k v h. h) name t d.tables e found)
