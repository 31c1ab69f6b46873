-- Adding a column: the streams of its table, and of the system tables that describe it.
use Rattle.std.specs.Prelude.{◌≡◌, ℕ, ◌+◌, Bool, List, [], ◌∷◌, ◌++◌, length, Option, Some, Result, Ok}
use Rattle.msi_base.specs.declared.errors.ErrorKind.{ErrorKind}
use Rattle.msi_base.specs.declared.errors.ErrorKind.TheVariants.{NotFound}
use Rattle.msi_base.specs.Refusals.{or_refused, ◌>>=◌}
use Rattle.msi_pool.specs.Pool.{Pool}
use Rattle.msi_table_cells.specs.Fitting.{FitsTable}
use Rattle.msi_table_cells.specs.TableCells.{TableCells}
use Rattle.msi_table_values.specs.Columns.{ColumnDef, types_of}
use Rattle.msi_table.specs.Tables.{TableDef}
use Rattle.msi_database_schema.specs.Description.{column_row, validation_row}
use Rattle.msi_database_schema.specs.Keys.{table_key}
use Rattle.msi_database_schema.specs.System.{columns_name, validation_name}
use Rattle.msi_database_changes.specs.AddColumn.{ColumnRows, with_nulls}
use Rattle.msi_database_changes.specs.Database.{Database, rows_of, table_at}
use Rattle.msi_database_changes.specs.Insert.{table_with}
use Rattle.msi_database_changes.specs.Texts.{PoolInUse, UsedPool, settled}
use Rattle.msi_database_changes.specs.declared.storing.Stored.{Stored}
use Rattle.msi_database_storage.specs.Kept.{Kept, with_table_kept, without_table_kept}
use Rattle.msi_database_storage.specs.Streams.{table_stream}
use Rattle.msi_database.specs.Creating.{CanHold, new_table, rows_with, stream_for}
use Rattle.msi_database.specs.Listed.{tables_listed}
use Rattle.msi_database.specs.Making.{base_with, wide_for}

-- the rows of the system tables with those that describe the column, and those of its table with null at their ends
abbrev pub rows_for_column : Database → List ℕ → ColumnDef → PoolInUse → TableCells
    → Result (ColumnRows × PoolInUse) ErrorKind
rows_for_column d name column pool t =
    rows_with d columns_name (column_row name (length t.columns + 1, column) ∷ []) pool >>=
    λ c. rows_with d validation_name (validation_row name column ∷ []) c.1 >>=
    λ v. Ok (record { columns = c.0; validation = v.0; own = with_nulls (rows_of t) }, v.1)

abbrev pub rows_lengthened : Database → List ℕ → ColumnDef → PoolInUse → Result (ColumnRows × PoolInUse) ErrorKind
rows_lengthened d name column pool = or_refused NotFound (table_at name d) >>= rows_for_column d name column pool

-- the rows can be stored, those of the table by all its columns
pub record CanHoldColumn (d : Database) (columns : List ColumnDef) (rows : ColumnRows) : Type 0 where
  pub described : CanHold d columns_name rows.columns
  pub validated : CanHold d validation_name rows.validation
  pub own : FitsTable d.pool.long (types_of columns) rows.own

abbrev pub column_streams : Database → List ℕ → List ColumnDef → ColumnRows → List Stored
column_streams d name columns rows = stream_for d columns_name rows.columns
    ∷ stream_for d validation_name rows.validation
    ∷ record { name = table_key name; bytes = table_stream d.pool.long (Some (table_with columns rows.own)) } ∷ []

-- the tables, that of the name with these columns
abbrev pub tables_over : Database → List ℕ → List ColumnDef → List TableDef
tables_over d name columns =
    with_table_kept (new_table d name columns) (without_table_kept name (tables_listed d))

-- what adding a column makes: over which database, which streams and tables, and the pool after it
pub record IsLengthened (old : Kept) (name : List ℕ) (columns : List ColumnDef) (rows : ColumnRows) (used : UsedPool)
    (wide : Option Kept) (streams : List Stored) (after : List TableDef) (new : Pool) (is_pool_used : Bool)
    : Type 0 where
  pub base : wide ≡ wide_for used old
  pub stored : streams ≡ column_streams (base_with (wide_for used old) old).database name columns rows
  pub tables : after ≡ tables_over (base_with (wide_for used old) old).database name columns
  pub pool : new ≡ settled used.pool
  pub uses : is_pool_used ≡ used.is_used
