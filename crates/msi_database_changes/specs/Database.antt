-- A database: tables of cells over one pool of texts.
use Rattle.std.specs.Prelude.{◌≡◌, ℕ, ◌+◌, ◌<◌, Bool, true, false, not, List, [], ◌∷◌, ◌++◌, length, filter, count_by}
use Rattle.std.specs.Prelude.{Option, unwrap_or, option_map, is_some, nat_lt, nat_le, ◌==◌, ◌&&◌, bytes_eq}
use Rattle.std.specs.Prelude.{slice_get, map}
use Rattle.std.specs.List.{flat_map, list_all}
use Rattle.std.specs.FinMap.{find, put, is_sorted}
use Rattle.std.specs.Ordering.{eq_by_cmp}
use Rattle.msi_pool.specs.Pool.{Pool, Place}
use Rattle.msi_pool.specs.FirstFit.{most_places, count_of}
use Rattle.msi_base.specs.Lists.{list_cmp, tabulated}
use Rattle.msi_table_cells.specs.declared.cell.ValueRef.{ValueRef}
use Rattle.msi_table_values.specs.declared.column.ColumnType.{ColumnType}
use Rattle.msi_table_values.specs.Columns.{ColumnDef}
use Rattle.msi_table.specs.Census.{numbers_of_rows}
use Rattle.msi_query.specs.Selection.{TableValues}
use Rattle.msi_database_schema.specs.Keys.{is_table_name}
use Rattle.msi_database_schema.specs.System.{validation_name, validation_columns}
use Rattle.msi_table_cells.specs.TableCells.{TableCells}
use Rattle.msi_query.specs.Rows.{table_values}
use Rattle.std.specs.Option as options
use Rattle.msi_table_values.specs.declared.column.ColumnType.TheVariants as coltype

-- tables stand in the order of their names
abbrev pub Tables : Type 0
Tables = List (List ℕ × TableCells)

-- `unlisted_validation` has the rows of the stream of `_Validation` where that is no table
pub record Database : Type 0 where
  pub pool : Pool
  pub tables : Tables
  pub unlisted_validation : List (List ValueRef)

-- tables by name
abbrev pub table_at : List ℕ → Database → Option TableCells
table_at name d = find list_cmp name d.tables

-- the columns of tables by name
abbrev pub columns_by_name : Database → List (List ℕ × List ColumnDef)
columns_by_name d = map (λ t. (t.0, t.1.columns)) d.tables

abbrev pub has_table : List ℕ → Database → Bool
has_table name d = is_some (table_at name d)

abbrev pub with_table : List ℕ → TableCells → Database → Database
with_table name t d = record d { tables = put list_cmp name t d.tables }

abbrev pub without_table : List ℕ → Database → Database
without_table name d = record d { tables = filter (λ t. not (eq_by_cmp list_cmp name t.0)) d.tables }

abbrev pub rows_of : TableCells → List (List ValueRef)
rows_of t = unwrap_or t.rows []

abbrev pub with_places : List Place → Database → Database
with_places places d = record d { pool = record d.pool { places = places } }

abbrev pub values_of : Database → List ℕ → Option TableValues
values_of d name = option_map (table_values d.pool.places) (table_at name d)

-- the numbers that cells name, of every table, and of the stream of `_Validation` where it is no table
abbrev pub named_numbers : Database → List ℕ
named_numbers d = flat_map (λ t. numbers_of_rows (rows_of t.1)) d.tables ++ numbers_of_rows d.unlisted_validation

abbrev pub cells_naming : Database → ℕ → ℕ
cells_naming d number = count_by (λ n. n == number) (named_numbers d)

-- each place's count is the number of the cells that name it; of an opened package it is not below
abbrev pub CountsAreExact : Database → Type 0
CountsAreExact d = (i : ℕ) → i < length d.pool.places → count_of (slice_get d.pool.places i) ≡ cells_naming d (i + 1)

-- the ten columns of `_Validation` by name, kind and key
abbrev pub same_kind : ColumnType → ColumnType → Bool
same_kind coltype.Int16 coltype.Int16 = true
same_kind coltype.Int32 coltype.Int32 = true
same_kind (coltype.Str m) (coltype.Str n) = true
same_kind coltype.Binary coltype.Binary = true
same_kind _ _ = false

abbrev pub same_bool : Bool → Bool → Bool
same_bool true b = b
same_bool false b = not b

abbrev pub are_alike : List ColumnDef → List ColumnDef → Bool
are_alike [] [] = true
are_alike (c ∷ cs) (d ∷ ds) = bytes_eq c.name d.name && same_kind c.coltype d.coltype
    && same_bool c.is_primary_key d.is_primary_key && are_alike cs ds
are_alike _ _ = false

-- A sound database
abbrev pub counts_suffice : Database → Bool
counts_suffice d = list_all (λ enough. enough)
    (tabulated (length d.pool.places) (λ i. nat_le (cells_naming d (i + 1)) (count_of (slice_get d.pool.places i))))

abbrev pub names_stay_in_pool : Database → Bool
names_stay_in_pool d = list_all (λ n. nat_le n (length d.pool.places)) (named_numbers d)

abbrev pub pool_fits_width : Database → Bool
pool_fits_width d = nat_le (length d.pool.places) (most_places d.pool.long)

-- a table whose rows can be read, under an accepted name
abbrev pub is_readable_table : List ℕ × TableCells → Bool
is_readable_table t = is_some t.1.rows && is_table_name t.0

abbrev pub tables_are_readable : Database → Bool
tables_are_readable d = list_all is_readable_table d.tables

abbrev pub validation_is_standard : Database → Bool
validation_is_standard d = options.option_map_or
    (λ t. are_alike t.columns validation_columns) (table_at validation_name d) true

abbrev pub is_sound : Database → Bool
is_sound d = counts_suffice d && names_stay_in_pool d && pool_fits_width d
    && tables_are_readable d && validation_is_standard d

-- What every database keeps to, sound or not: cells name places from 1 on, tables stand in the order of their names,
-- and each row has a cell for each column
abbrev pub names_are_numbers : Database → Bool
names_are_numbers d = list_all (λ n. nat_lt 0 n) (named_numbers d)

abbrev pub table_is_full : List ℕ × TableCells → Bool
table_is_full t = list_all (λ row. length row == length t.1.columns) (rows_of t.1)

abbrev pub is_well_formed : Database → Bool
is_well_formed d = names_are_numbers d && is_sorted list_cmp d.tables && list_all table_is_full d.tables
