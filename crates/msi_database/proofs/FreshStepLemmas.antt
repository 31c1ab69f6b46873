-- The steps of a new database by computation: each system table can be given the rows that describe `_Validation`.
use Rattle.std.proofs.Common.{◌≡◌, true, false, List, [], length, Some, refl}
use Rattle.std.specs.Prelude.{IsTrue}
use Rattle.msi_container_format.specs.Names.{is_name_length}
use Rattle.msi_table_values.specs.declared.value.Value.{Value}
use Rattle.msi_database_schema.specs.Description.{column_rows, have_short_lengths, validation_rows}
use Rattle.msi_database_schema.specs.Keys.{table_key}
use Rattle.msi_database_schema.specs.System.{columns_name, tables_name, validation_columns, validation_name}
use Rattle.msi_database_changes.specs.Database.{Database, table_at}
use Rattle.msi_database_changes.specs.Texts.{PoolInUse, in_use}
use Rattle.msi_database_changes.specs.Changes.{no_change, pool_of}
use Rattle.msi_database_changes.specs.Insert.{cells_added}
use Rattle.msi_database.specs.Fresh.{bare_database, empty_table}
use Rattle.msi_database.specs.FreshParts.{CanBegin, columns_table, tables_table, unused_pool, validation_table}
use Rattle.msi_database.proofs.FreshCallLemmas.{begun, fits_begun, fits_begun_is, listing}

-- THE VALUES, AND THE POOLS

unfoldable pub column_values : List (List Value)
column_values = column_rows validation_name validation_columns

unfoldable pub table_values : List (List Value)
table_values = listing validation_name

unfoldable pub validation_values : List (List Value)
validation_values = validation_rows validation_name validation_columns

unfoldable pub pool₀ : PoolInUse
pool₀ = in_use unused_pool

unfoldable pub pool₁ : PoolInUse
pool₁ = (begun columns_table pool₀ column_values).1

unfoldable pub pool₂ : PoolInUse
pool₂ = (begun tables_table pool₁ table_values).1

-- EACH STEP

first_test : fits_begun columns_table (cells_added columns_table.long columns_table.columns pool₀ [] column_values) ≡ true
unfolding Rattle.std.specs.Str.chars fits_begun columns_table column_values pool₀
first_test = refl

second_test : fits_begun tables_table (cells_added tables_table.long tables_table.columns pool₁ [] table_values) ≡ true
unfolding Rattle.std.specs.Str.chars fits_begun begun columns_table tables_table column_values table_values pool₀ pool₁
second_test = refl

third_test : fits_begun validation_table (cells_added validation_table.long validation_table.columns pool₂ [] validation_values) ≡ true
unfolding Rattle.std.specs.Str.chars fits_begun begun columns_table tables_table validation_table column_values table_values validation_values pool₀ pool₁ pool₂
third_test = refl

pub first_can : CanBegin columns_table pool₀ column_values
first_can = fits_begun_is columns_table (cells_added columns_table.long columns_table.columns pool₀ [] column_values) first_test

pub second_can : CanBegin tables_table pool₁ table_values
second_can = fits_begun_is tables_table (cells_added tables_table.long tables_table.columns pool₁ [] table_values) second_test

pub third_can : CanBegin validation_table pool₂ validation_values
third_can = fits_begun_is validation_table (cells_added validation_table.long validation_table.columns pool₂ [] validation_values) third_test

-- THE DATABASE BEFORE ANY ROW

unfoldable pub bare : Database
bare = bare_database

pub columns_at : table_at columns_name bare ≡ Some (empty_table columns_table.columns)
unfolding Rattle.std.specs.Str.chars bare columns_table
columns_at = refl

pub tables_at : table_at tables_name bare ≡ Some (empty_table tables_table.columns)
unfolding Rattle.std.specs.Str.chars bare tables_table
tables_at = refl

pub validation_at : table_at validation_name bare ≡ Some (empty_table validation_table.columns)
unfolding Rattle.std.specs.Str.chars bare validation_table
validation_at = refl

pub pool_bare : pool_of (no_change bare) ≡ pool₀
unfolding bare pool₀
pool_bare = refl

pub bare_long : bare.pool.long ≡ false
unfolding bare
bare_long = refl

-- THE TABLES

pub columns_long : columns_table.long ≡ false
unfolding columns_table
columns_long = refl

pub tables_long : tables_table.long ≡ false
unfolding tables_table
tables_long = refl

pub validation_long : validation_table.long ≡ false
unfolding validation_table
validation_long = refl

pub columns_named : columns_table.name ≡ columns_name
unfolding columns_table
columns_named = refl

pub tables_named : tables_table.name ≡ tables_name
unfolding tables_table
tables_named = refl

pub validation_named : validation_table.name ≡ validation_name
unfolding validation_table
validation_named = refl

pub columns_key : is_name_length (length (table_key columns_table.name)) ≡ true
unfolding Rattle.std.specs.Str.chars columns_table
columns_key = refl

pub tables_key : is_name_length (length (table_key tables_table.name)) ≡ true
unfolding Rattle.std.specs.Str.chars tables_table
tables_key = refl

pub validation_key : is_name_length (length (table_key validation_table.name)) ≡ true
unfolding Rattle.std.specs.Str.chars validation_table
validation_key = refl

pub short_lengths : IsTrue (have_short_lengths validation_table.columns)
unfolding Rattle.std.specs.Str.chars validation_table
short_lengths = refl

-- THE VALUES AND THE POOLS, AS CALLS MAKE THEM

pub column_values_are : column_rows validation_name validation_table.columns ≡ column_values
unfolding column_values validation_table
column_values_are = refl

pub table_values_are : listing validation_name ≡ table_values
unfolding table_values
table_values_are = refl

pub validation_values_are : validation_rows validation_name validation_table.columns ≡ validation_values
unfolding validation_values validation_table
validation_values_are = refl

pub pool₀_is : in_use unused_pool ≡ pool₀
unfolding pool₀
pool₀_is = refl

pub pool₁_is : (begun columns_table pool₀ column_values).1 ≡ pool₁
unfolding pool₁
pool₁_is = refl

pub pool₂_is : (begun tables_table pool₁ table_values).1 ≡ pool₂
unfolding pool₂
pool₂_is = refl
