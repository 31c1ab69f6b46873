-- Creating a table: what refuses it, and the streams of the system tables that describe it.
use Rattle.std.specs.Prelude.{◌≡◌, ℕ, Bool, true, List, [], ◌∷◌, ◌++◌, Option, IsSomeAnd, Result, Ok}
use Rattle.std.specs.Option.{option_map_or}
use Rattle.msi_base.specs.declared.errors.ErrorKind.{ErrorKind}
use Rattle.msi_base.specs.declared.errors.ErrorKind.TheVariants.{InvalidInput, NotFound}
use Rattle.msi_table_values.specs.declared.value.Value.{Value}
use Rattle.msi_table_cells.specs.declared.cell.ValueRef.{ValueRef}
use Rattle.msi_table_values.specs.Columns.{ColumnDef, types_of}
use Rattle.msi_table_cells.specs.Fitting.{FitsTable}
use Rattle.msi_table.specs.Tables.{TableDef}
use Rattle.msi_base.specs.Refusals.{Refusals, or_refused, unless_refused, ◌>>=◌}
use Rattle.msi_database_schema.specs.Description.{column_rows, tables_row, validation_rows}
use Rattle.msi_database_schema.specs.Keys.{table_key}
use Rattle.msi_database_schema.specs.System.{tables_name, columns_name, validation_name}
use Rattle.msi_database_changes.specs.Database.{Database, table_at, rows_of}
use Rattle.msi_pool.specs.Pool.{Pool}
use Rattle.msi_database_changes.specs.Texts.{PoolInUse, UsedPool, settled}
use Rattle.msi_database_changes.specs.Changes.{sound_refusal}
use Rattle.msi_database_changes.specs.Create.{SystemRows, table_refusals}
use Rattle.msi_database_changes.specs.Insert.{cells_added, row_refusals}
use Rattle.msi_database_changes.specs.declared.storing.Stored.{Stored}
use Rattle.msi_database_storage.specs.Kept.{Kept, with_table_kept}
use Rattle.msi_database_storage.specs.Storing.{stream_gone}
use Rattle.msi_database_storage.specs.Streams.{stream_of_rows}
use Rattle.msi_database.specs.Listed.{tables_listed}
use Rattle.msi_database.specs.Making.{base_with, wide_for}

-- why a database makes no table of a name and columns, before its rows are looked at
abbrev pub create_refusals : Database → List ℕ → List ColumnDef → Refusals
create_refusals d name columns = sound_refusal d ++ table_refusals d name columns

-- all rows of a table with new ones, and the pool after their texts were taken with references of three bytes
abbrev pub rows_with : Database → List ℕ → List (List Value) → PoolInUse
    → Result (List (List ValueRef) × PoolInUse) ErrorKind
rows_with d name values pool = or_refused NotFound (table_at name d) >>=
    λ t. unless_refused (row_refusals pool.places t values) t >>=
    λ t. or_refused InvalidInput (cells_added true t.columns pool (rows_of t) values)

-- the rows of the system tables with those that describe a new table
abbrev pub rows_described : Database → List ℕ → List ColumnDef → PoolInUse
    → Result (SystemRows × PoolInUse) ErrorKind
rows_described d name columns pool = rows_with d columns_name (column_rows name columns) pool >>=
    λ c. rows_with d tables_name (tables_row name ∷ []) c.1 >>=
    λ t. rows_with d validation_name (validation_rows name columns) t.1 >>=
    λ v. Ok (record { columns = c.0; tables = t.0; validation = v.0 }, v.1)

-- the columns of the table of a name, and its stream with these rows
abbrev pub columns_at : List ℕ → Database → List ColumnDef
columns_at name d = option_map_or (λ t. t.columns) (table_at name d) []

abbrev pub stream_for : Database → List ℕ → List (List ValueRef) → Stored
stream_for d name rows =
    record { name = table_key name; bytes = stream_of_rows d.pool.long (columns_at name d) rows }

-- there is a table of the name, which can store these rows
abbrev pub CanHold : Database → List ℕ → List (List ValueRef) → Type 0
CanHold d name rows = IsSomeAnd (table_at name d) (λ t. FitsTable d.pool.long (types_of t.columns) rows)

pub record CanHoldAll (d : Database) (rows : SystemRows) : Type 0 where
  pub columns : CanHold d columns_name rows.columns
  pub tables : CanHold d tables_name rows.tables
  pub validation : CanHold d validation_name rows.validation

-- the streams of the system tables with these rows; that of the new table goes if one is left over
abbrev pub streams_for : Database → List ℕ → SystemRows → List Stored
streams_for d name rows = stream_for d columns_name rows.columns ∷ stream_for d tables_name rows.tables
    ∷ stream_for d validation_name rows.validation ∷ stream_gone name ∷ []

-- a new table, whose references are as long as the pool's
abbrev pub new_table : Database → List ℕ → List ColumnDef → TableDef
new_table d name columns = record { name = name; columns = columns; long = d.pool.long }

-- what creating a table makes: over which database, which streams and tables, and the pool after it
pub record IsCreated (old : Kept) (name : List ℕ) (columns : List ColumnDef) (rows : SystemRows) (used : UsedPool)
    (wide : Option Kept) (streams : List Stored) (after : List TableDef) (new : Pool) (is_pool_used : Bool)
    : Type 0 where
  pub base : wide ≡ wide_for used old
  pub stored : streams ≡ streams_for (base_with (wide_for used old) old).database name rows
  pub tables : let base = base_with (wide_for used old) old in
      after ≡ with_table_kept (new_table base.database name columns) (tables_listed base.database)
  pub pool : new ≡ settled used.pool
  pub uses : is_pool_used ≡ used.is_used
