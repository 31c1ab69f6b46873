-- Streams that belong to no table, kept beside a database.
use Rattle.std.specs.Prelude.{◌≢◌, ℕ, List, ◌∷◌, map}
use Rattle.std.specs.List.{AllByRecursion}
use Rattle.msi_database_schema.specs.Keys.{table_key}
use Rattle.msi_database_schema.specs.System.{columns_name, tables_name, validation_name}
use Rattle.msi_database_changes.specs.Database.{Database}
use Rattle.msi_database_storage.specs.Streams.{Streams}
use Rattle.msi_database_storage.specs.Kept.{Kept}

-- no table's stream has this name, and none of the three system tables', listed or not
abbrev pub IsOther : Database → List ℕ → Type 0
IsOther d name = AllByRecursion (λ table. name ≢ table_key table)
    (validation_name ∷ columns_name ∷ tables_name ∷ map (λ t. t.0) d.tables)

-- the same database with other streams
abbrev pub with_streams : (Streams → Streams) → Kept → Kept
with_streams edit k = record k { streams = edit k.streams }
