-- Where rows fit their columns, a database whose tables stand in order is well formed.
use Rattle.std.proofs.Common.{◌≡◌, ℕ, ◌<◌, Bool, true, ◌==◌, List, [], ◌∷◌, ◌++◌, length, Option, Some, None, unwrap_or, is_some, nat_lt, refl, sym, ◌∙◌, arith, flat_map, filter_map}
use Rattle.std.specs.Prelude.{IfSome, IsSomeAnd}
use Rattle.std.specs.List.{AllByRecursion, list_all}
use Rattle.std.specs.FinMap.{find}
use Rattle.std.proofs.lemmas.Bool.{and_from, true≢false}
use Rattle.std.proofs.lemmas.Bool.Decides.{nat_tests}
use Rattle.std.proofs.lemmas.List.{length-map}
use Rattle.std.proofs.lemmas.List.Folds.{list_all-append}
use Rattle.msi_base.specs.Lists.{list_cmp}
use Rattle.msi_table_values.specs.declared.column.ColumnType.{ColumnType}
use Rattle.msi_table_values.specs.declared.column.ColumnType.TheVariants as coltype
use Rattle.msi_table_cells.specs.declared.cell.ValueRef.{ValueRef}
use Rattle.msi_table_cells.specs.declared.cell.ValueRef.TheVariants as cell
use Rattle.msi_table_values.specs.Columns.{types_of}
use Rattle.msi_table_cells.specs.Fitting.{FitsColumn, FitsRow, FitsTable}
use Rattle.msi_table_cells.proofs.FittingLemmas.{fits_length}
use Rattle.msi_table_cells.specs.TableCells.{TableCells}
use Rattle.msi_database_schema.specs.System.{validation_columns}
use Rattle.msi_database_schema.proofs.RowOrderLemmas.{names_total}
use Rattle.msi_table.specs.Census.{number_of_cell, numbers_of_rows}
use Rattle.msi_database_changes.specs.Database.{Database, Tables, rows_of, is_sound}
use Rattle.msi_database_changes.proofs.steps.StoredLemmas.{WellFormed, table_is_full}
use Rattle.msi_database_changes.proofs.steps.TracksLemmas.{TableFits, AllFit}
use Rattle.msi_database_changes.proofs.soundness.RegularLemmas.{IsRegular}
use Rattle.msi_database.specs.Keeping.{HasFittingRows, RowsFit, UnlistedFits}
use Rattle.msi_database_storage.proofs.MapLemmas as maps
use Rattle.msi_database.proofs.soundness.SoundLemmas.{sound_rows}
use Rattle.msi_database_storage.proofs.StreamLemmas.{TablesSorted, tables_found, list_cmp_exact}

-- ROWS THAT FIT

abbrev from_one : ℕ → Bool
from_one n = nat_lt 0 n

above : (n : ℕ) → 0 < n → from_one n ≡ true
above n h = grind (arith, nat_tests)

pub number_fits : (long : Bool) (type : ColumnType) (n : ℕ) → FitsColumn long type (cell.Str n) → 0 < n
number_fits long coltype.Int16 n f = absurd f
number_fits long coltype.Int32 n f = absurd f
number_fits long (coltype.Str k) n f = f.0
number_fits long coltype.Binary n f = absurd f

row_numbers : (long : Bool) (types : List ColumnType) (row : List ValueRef) → FitsRow long types row → list_all from_one (filter_map number_of_cell row) ≡ true
row_numbers long [] [] f = refl
row_numbers long [] (c ∷ cs) f = absurd f
row_numbers long (t ∷ ts) [] f = absurd f
row_numbers long (t ∷ ts) (cell.Str n ∷ cs) f = and_from (from_one n) (list_all from_one (filter_map number_of_cell cs)) (above n (number_fits long t n f.0)) (row_numbers long ts cs f.1)
row_numbers long (t ∷ ts) (cell.Null ∷ cs) f = row_numbers long ts cs f.1
row_numbers long (t ∷ ts) (cell.Int n ∷ cs) f = row_numbers long ts cs f.1
row_numbers long (t ∷ ts) (cell.Binary ∷ cs) f = row_numbers long ts cs f.1

joined : (p : ℕ → Bool) (xs ys : List ℕ) → list_all p xs ≡ true → list_all p ys ≡ true → list_all p (xs ++ ys) ≡ true
joined p xs ys f g = list_all-append p xs ys ∙ and_from (list_all p xs) (list_all p ys) f g

rows_numbers : (long : Bool) (types : List ColumnType) (rows : List (List ValueRef)) → AllByRecursion (FitsRow long types) rows → list_all from_one (numbers_of_rows rows) ≡ true
rows_numbers long types [] f = refl
rows_numbers long types (r ∷ rs) f = joined from_one (filter_map number_of_cell r) (numbers_of_rows rs) (row_numbers long types r f.0) (rows_numbers long types rs f.1)

rows_full : (long : Bool) (t : TableCells) (rows : List (List ValueRef)) → AllByRecursion (FitsRow long (types_of t.columns)) rows → list_all (λ row. length row == length t.columns) rows ≡ true
rows_full long t [] f = refl
rows_full long t (r ∷ rs) f =
    let wide : length r ≡ length (types_of t.columns) = fits_length long (types_of t.columns) r f.0 in
    let same : length r ≡ length t.columns = wide ∙ length-map t.columns (λ c. c.coltype) in
    and_from (length r == length t.columns) (list_all (λ row. length row == length t.columns) rs) (grind (arith, nat_tests)) (rows_full long t rs f.1)

each_row : (long : Bool) (types : List ColumnType) (o : Option (List (List ValueRef))) → IfSome o (FitsTable long types) → AllByRecursion (FitsRow long types) (unwrap_or o [])
each_row long types None f = tt
each_row long types (Some rows) f = f.each_row

tables_numbers : (long : Bool) (ts : Tables) → AllByRecursion (λ t. HasFittingRows long t.1) ts → list_all from_one (flat_map (λ t. numbers_of_rows (rows_of t.1)) ts) ≡ true
tables_numbers long [] f = refl
tables_numbers long (t ∷ ts) f = joined from_one (numbers_of_rows (rows_of t.1)) (flat_map (λ t. numbers_of_rows (rows_of t.1)) ts)
    (rows_numbers long (types_of t.1.columns) (rows_of t.1) (each_row long (types_of t.1.columns) t.1.rows f.0)) (tables_numbers long ts f.1)

tables_full : (long : Bool) (ts : Tables) → AllByRecursion (λ t. HasFittingRows long t.1) ts → list_all table_is_full ts ≡ true
tables_full long [] f = refl
tables_full long (t ∷ ts) f = and_from (table_is_full t) (list_all table_is_full ts)
    (rows_full long t.1 (rows_of t.1) (each_row long (types_of t.1.columns) t.1.rows f.0)) (tables_full long ts f.1)

pub well_formed : (d : Database) → TablesSorted d.tables → RowsFit d → UnlistedFits d → WellFormed d
well_formed d in_order fit unlisted = record {
  numbers = joined from_one (flat_map (λ t. numbers_of_rows (rows_of t.1)) d.tables) (numbers_of_rows d.unlisted_validation)
      (tables_numbers d.pool.long d.tables fit) (rows_numbers d.pool.long (types_of validation_columns) d.unlisted_validation unlisted);
  in_order = in_order;
  full = tables_full d.pool.long d.tables fit;
}

-- TABLES THAT ARE FOUND

-- where each table's rows can be read
readable_fits : (long : Bool) (types : List ColumnType) (o : Option (List (List ValueRef))) → is_some o ≡ true → IfSome o (FitsTable long types) → IsSomeAnd o (FitsTable long types)
readable_fits long types None e f = absurd (true≢false (sym e))
readable_fits long types (Some rows) e f = f

all_readable : (long : Bool) (ts : Tables) → AllByRecursion (λ t. is_some t.1.rows ≡ true) ts → AllByRecursion (λ t. HasFittingRows long t.1) ts → AllByRecursion (λ t. TableFits long t.1) ts
all_readable long [] e f = tt
all_readable long (t ∷ ts) e f = (readable_fits long (types_of t.1.columns) t.1.rows e.0 f.0, all_readable long ts e.1 f.1)

pub sound_fits : (d : Database) → is_sound d ≡ true → RowsFit d → AllFit d
sound_fits d sound fit name t found = maps.found_has names_total list_cmp_exact (λ e. TableFits d.pool.long e.1) name t d.tables (all_readable d.pool.long d.tables (sound_rows d sound) fit) found

pub regular_by : (d : Database) → is_sound d ≡ true → TablesSorted d.tables → RowsFit d → UnlistedFits d → IsRegular d
regular_by d sound in_order fit unlisted = record { well = well_formed d in_order fit unlisted; fit = sound_fits d sound fit; unlisted = unlisted }

-- the other way round
fits_if_read : (long : Bool) (types : List ColumnType) (o : Option (List (List ValueRef))) → IsSomeAnd o (FitsTable long types) → IfSome o (FitsTable long types)
fits_if_read long types None f = absurd f
fits_if_read long types (Some rows) f = f

each_from : (long : Bool) (all tables : Tables) → AllByRecursion (λ t. find list_cmp t.0 all ≡ Some t.1) tables → ((name : List ℕ) (t : TableCells) → find list_cmp name all ≡ Some t → TableFits long t)
    → AllByRecursion (λ t. HasFittingRows long t.1) tables
each_from long all [] found h = tt
each_from long all (t ∷ ts) found h = (fits_if_read long (types_of t.1.columns) t.1.rows (h t.0 t.1 found.0), each_from long all ts found.1 h)

pub rows_fit : (d : Database) → TablesSorted d.tables → AllFit d → RowsFit d
rows_fit d in_order h = each_from d.pool.long d.tables d.tables (tables_found d.tables in_order) h
