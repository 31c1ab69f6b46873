-- A table that is dropped, step by step: which texts go back to the pool, and which streams are stored.
use Rattle.std.specs.Prelude.{ℕ, not, List, [], ◌∷◌, ◌++◌, filter, None}
use Rattle.std.specs.Option.{option_map_or}
use Rattle.msi_database_schema.specs.Keys.{table_key}
use Rattle.msi_database_changes.specs.Database.{Database, table_at, rows_of}
use Rattle.msi_database_changes.specs.Texts.{PoolInUse, rows_released}
use Rattle.msi_database_changes.specs.Drop.{is_row_about}
use Rattle.msi_database_changes.specs.declared.storing.Stored.{Stored}
use Rattle.msi_database_storage.specs.Streams.{stream_of_rows}

-- the pool after the table's own rows, and after those about it of a system table
abbrev pub rows_given_back : Database → List ℕ → PoolInUse → PoolInUse
rows_given_back d name used = option_map_or (λ t. rows_released used (rows_of t)) (table_at name d) used

abbrev pub about_given_back : Database → List ℕ → List ℕ → PoolInUse → PoolInUse
about_given_back d name system used = option_map_or
    (λ t. rows_released used (filter (is_row_about d.pool.places name) (rows_of t))) (table_at system d) used

-- the table's own stream goes, and that of a system table, where it is one, has its other rows
abbrev pub own_stream : List ℕ → List Stored
own_stream name = record { name = table_key name; bytes = None } ∷ []

abbrev pub system_stream : Database → List ℕ → List ℕ → List Stored
system_stream d name system = option_map_or
    (λ t. record {
      name = table_key system;
      bytes = stream_of_rows d.pool.long t.columns
          (filter (λ row. not (is_row_about d.pool.places name row)) (rows_of t));
    } ∷ [])
    (table_at system d) []
