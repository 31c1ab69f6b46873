-- The parts of a new database, and the first rows of a table.
use Rattle.std.specs.Prelude.{◌≡◌, false, List, [], IsSomeAnd}
use Rattle.msi_pool.specs.Pool.{Pool}
use Rattle.msi_table_values.specs.declared.value.Value.{Value}
use Rattle.msi_table.specs.Tables.{TableDef, CanStore}
use Rattle.msi_database_schema.specs.Keys.{table_key}
use Rattle.msi_database_schema.specs.System.{columns_columns, columns_name, tables_columns, tables_name}
use Rattle.msi_database_schema.specs.System.{validation_columns, validation_name}
use Rattle.msi_database_changes.specs.Texts.{PoolInUse, UsedPool}
use Rattle.msi_database_changes.specs.Insert.{cells_added}
use Rattle.msi_database_changes.specs.declared.storing.Stored.{Stored}
use Rattle.msi_database_storage.specs.Storing.{tables_stored}
use Rattle.msi_database_storage.specs.Streams.{stream_of_rows}
use Rattle.msi_database.specs.Fresh.{bare_database, fresh_change}

-- the system tables
unfoldable pub columns_table : TableDef
columns_table = record { name = columns_name; columns = columns_columns; long = false }

unfoldable pub tables_table : TableDef
tables_table = record { name = tables_name; columns = tables_columns; long = false }

unfoldable pub validation_table : TableDef
validation_table = record { name = validation_name; columns = validation_columns; long = false }

-- the pool before any row, and the one of a new database
abbrev pub unused_pool : UsedPool
unused_pool = record { pool = bare_database.pool; is_used = false }

unfoldable pub fresh_pool : Pool
fresh_pool = fresh_change.database.pool

-- the streams that a new database stores
unfoldable pub fresh_stored : List Stored
fresh_stored = tables_stored fresh_change.database fresh_change.stored

-- a table without rows can be given rows of these values: their texts find places, and the table can store them
abbrev pub CanBegin : TableDef → PoolInUse → List (List Value) → Type 0
CanBegin t pool values = IsSomeAnd (cells_added t.long t.columns pool [] values) (λ r. CanStore t r.0)

-- the stream that then is stored, and the pool after it
abbrev pub Begins : TableDef → PoolInUse → List (List Value) → Stored → PoolInUse → Type 0
Begins t pool values stored after = IsSomeAnd (cells_added t.long t.columns pool [] values) (λ r.
    (stored ≡ record { name = table_key t.name; bytes = stream_of_rows t.long t.columns r.0 }) × (after ≡ r.1))
