-- What streams say of a database: the rows of its tables, and by the rows of the system tables which tables it has.
use Rattle.std.specs.Prelude.{◌≡◌, ℕ, ◌==◌, Bool, List, [], ◌++◌, map, Option, Some, option_map, option_and_then}
use Rattle.std.specs.Prelude.{unwrap_or, MatchBool}
use Rattle.std.specs.List.{AllByRecursion, list_any}
use Rattle.msi_pool.specs.Pool.{Pool}
use Rattle.msi_table_values.specs.declared.value.Value.{Value}
use Rattle.msi_table_values.specs.Columns.{ColumnDef}
use Rattle.msi_table_cells.specs.CellValues.{row_values}
use Rattle.msi_database_schema.specs.System.{tables_name, columns_name, validation_name, tables_columns}
use Rattle.msi_database_schema.specs.System.{columns_columns, validation_columns}
use Rattle.msi_database_schema.specs.Schema.{SchemaRows, schema_of}
use Rattle.msi_table.specs.Census.{numbers_of_rows}
use Rattle.msi_database_changes.specs.Database.{Database, has_table, named_numbers, columns_by_name}
use Rattle.msi_database_storage.specs.Streams.{Streams, stored_rows}

-- each table has the rows of its stream
abbrev pub TablesAre : Streams → Database → Type 0
TablesAre streams d = AllByRecursion (λ t. t.1.rows ≡ stored_rows streams d.pool.long t.1.columns t.0) d.tables

-- the rows of the stream of `_Validation` are kept beside the tables where it is none
abbrev pub UnlistedIs : Streams → Database → Type 0
UnlistedIs streams d = MatchBool (has_table validation_name d) (d.unlisted_validation ≡ [])
    (stored_rows streams d.pool.long validation_columns validation_name ≡ Some d.unlisted_validation)

-- the values of a system table's rows; those of `_Validation` are read by its standard columns, listed or not
abbrev pub described_by : Streams → Pool → List ColumnDef → List ℕ → Option (List (List Value))
described_by streams pool columns name = option_map (map (row_values pool.places))
    (stored_rows streams pool.long columns name)

abbrev pub schema_rows : Streams → Pool → Option SchemaRows
schema_rows streams pool =
    option_and_then (λ tables. option_and_then (λ columns. option_map
    (λ validation. record { tables = tables; columns = columns; validation = validation })
    (described_by streams pool validation_columns validation_name))
    (described_by streams pool columns_columns columns_name))
    (described_by streams pool tables_columns tables_name)

abbrev pub schema_in : Streams → Pool → Option (List (List ℕ × List ColumnDef))
schema_in streams pool = option_and_then schema_of (schema_rows streams pool)

-- the tables are those that the rows of the system tables describe
abbrev pub SchemaIs : Streams → Database → Type 0
SchemaIs streams d = schema_in streams d.pool ≡ Some (columns_by_name d)

-- the streams spell the database
pub record DatabaseIs (streams : Streams) (d : Database) : Type 0 where
  pub tables : TablesAre streams d
  pub unlisted : UnlistedIs streams d
  pub schema : SchemaIs streams d

-- what names a place: a cell of a table, or of the stream of `_Validation` by its standard columns, listed or not
abbrev pub numbers_stored : Streams → Bool → List ℕ
numbers_stored streams long = numbers_of_rows
    (unwrap_or (stored_rows streams long validation_columns validation_name) [])

abbrev pub shown_numbers : Streams → Database → List ℕ
shown_numbers streams d = named_numbers d ++ numbers_stored streams d.pool.long

abbrev pub is_shown : Streams → Database → ℕ → Bool
is_shown streams d number = list_any (λ n. n == number) (shown_numbers streams d)
