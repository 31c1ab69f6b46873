-- What becomes of the streams of tables that are stored together.
use Rattle.std.specs.Prelude.{ℕ, List, [], ◌∷◌, map, None}
use Rattle.msi_database_schema.specs.Keys.{table_key}
use Rattle.msi_database_changes.specs.Database.{Database, table_at}
use Rattle.msi_database_changes.specs.declared.storing.Stored.{Stored}
use Rattle.msi_database_storage.specs.Streams.{Streams, with_stream_or_none, table_stream}

-- a table's stream that goes
abbrev pub stream_gone : List ℕ → Stored
stream_gone name = record { name = table_key name; bytes = None }

-- each name gets its bytes, or has no stream, in the order of names
abbrev pub stored_in : List Stored → Streams → Streams
stored_in [] streams = streams
stored_in (e ∷ es) streams = stored_in es (with_stream_or_none e.name e.bytes streams)

-- what becomes of the streams of a database's tables of these names
abbrev pub tables_stored : Database → List (List ℕ) → List Stored
tables_stored d names = map
    (λ name. record { name = table_key name; bytes = table_stream d.pool.long (table_at name d) })
    names
