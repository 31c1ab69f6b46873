-- What a look at a package says of the contents of its file.
use Rattle.std.specs.Prelude.{◌≡◌, ◌-◌, ◌^◌, min, ℕ, Bool, true, List, [], ◌∷◌, ◌++◌, map, sum_by, Option, Some, None}
use Rattle.std.specs.Prelude.{All, IfSome, ◌⊎◌, if◌then◌else◌}
use Rattle.std.specs.FinMap.{entries}
use Rattle.msi_base.specs.declared.errors.ErrorKind.{ErrorKind}
use Rattle.msi_container_view.specs.Reading.{Tells, IsReadRefusal}
use Rattle.std.specs.Option.{option_map_or}
use Rattle.msi_container_view.specs.declared.extents.Extent.{Extent}
use Rattle.msi_container_view.specs.Extents.{size_of}
use Rattle.msi_container_view.specs.Views.{View, ReadsMore, contents_in, extents_at, streams_at}
use Rattle.msi_database_schema.specs.Keys.{is_stream_name, stream_key, table_key, string_pool_name, string_data_name}
use Rattle.msi_database_schema.specs.System.{tables_name, columns_name, validation_name}
use Rattle.msi_database.specs.Database.{Database}
use Rattle.msi_database.specs.Transforming.{database_read}
use Rattle.msi_database_storage.specs.Agreement.{schema_in}
use Rattle.msi_database_storage.specs.Kept.{AreAsLong, Kept, database_kept, schema_listed}
use Rattle.msi_database_storage.specs.Streams.{Streams, stream_at, has_stream_at}
use Rattle.msi_pool.specs.Pool.{Pool}
use Rattle.msi_query.specs.Queries.{Query, table, join, product}
use Rattle.msi_table.specs.Tables.{TableDef}
use Rattle.msi.specs.Meaning.{OpenStep, FailsFirst, RawPoolIs}
use Rattle.msi.specs.Meaning.{has_pool, reads_pool, has_texts, reads_texts, reads_schema}

-- the streams of the root that are looked at, in a file
abbrev pub root_in : List ℕ → View → Streams
root_in file v = entries (streams_at file v.streams)

-- the pool and the tables that the root's streams describe; a free place of the pool keeps its text
pub record IsCatalog (root : Streams) (pool : Pool) (tables : List TableDef) : Type 0 where
  pub pools : RawPoolIs root pool
  pub schema : schema_in root pool ≡ Some (schema_listed tables)
  pub long : AreAsLong pool.long tables

-- the database of a pool and tables: they have the rows of the root's streams
abbrev pub database_seen : Streams → Pool → List TableDef → Database
database_seen root pool tables = database_kept pool tables root

-- what the steps to the tables are, of those of opening a package
abbrev pub table_steps : List OpenStep
table_steps = has_pool ∷ reads_pool ∷ has_texts ∷ reads_texts ∷ reads_schema ∷ []

-- Why a part isn't had: nothing could be read, or the first of its steps that fails
abbrev pub IsPartRefusal : Bool → View → List OpenStep → ErrorKind → Type 0
IsPartRefusal can_fail v steps kind = IsReadRefusal can_fail kind
    ⊎ ((file : List ℕ) → Tells v.held file → FailsFirst (contents_in file v) steps kind)

-- the pool and the tables of a package, and those streams of its root that were read
pub record Catalogued : Type 0 where
  pub pool : Pool
  pub tables : List TableDef
  pub streams : Streams

-- how many bytes the stream of a name has
abbrev pub size_at : List ℕ → View → ℕ
size_at name v = option_map_or size_of (extents_at name v.streams) 0

-- the pieces of the stream of this name, where a stream may have it
abbrev pub extents_named : List ℕ → List (List ℕ × List Extent) → Option (List Extent)
extents_named name located = if is_stream_name name then extents_at (stream_key name) located else None

-- how many bytes pieces have, as far as the type of the number tells
abbrev pub bytes_counted : List Extent → ℕ
bytes_counted extents = min (size_of extents) (2 ^ 64 - 1)

-- no more bytes were read than these streams have
abbrev pub ReadsStreams : View → View → List (List ℕ) → Type 0
ReadsStreams old new names = ReadsMore old new (sum_by (λ name. size_at name old) names)

-- the streams of the pool, and those of the system tables
abbrev pub pool_names : List (List ℕ)
pool_names = table_key string_pool_name ∷ table_key string_data_name ∷ []

abbrev pub catalog_names : List (List ℕ)
catalog_names = pool_names ++ table_key validation_name ∷ table_key tables_name ∷ table_key columns_name ∷ []

-- THE STREAMS THAT WERE READ

-- some of the root's streams
abbrev pub AreStreamsOf : Streams → Streams → Type 0
AreStreamsOf root loaded = (name : List ℕ) → has_stream_at name loaded ≡ true
    → stream_at name loaded ≡ stream_at name root

-- the stream of a name was read, or there is none
abbrev pub IsLoaded : Streams → Streams → List ℕ → Type 0
IsLoaded root loaded name = stream_at name loaded ≡ stream_at name root

-- the streams of the system tables were read
abbrev pub IsSchemaLoaded : Streams → Streams → Type 0
IsSchemaLoaded root loaded = IsLoaded root loaded (table_key validation_name)
    × IsLoaded root loaded (table_key tables_name) × IsLoaded root loaded (table_key columns_name)

-- the streams of these tables were read
abbrev pub AreTablesLoaded : Streams → Streams → List TableDef → Type 0
AreTablesLoaded root loaded tables = All (λ t. IsLoaded root loaded (table_key t.name)) tables

-- the tables that a query is for
abbrev pub tables_read : Query → List (List ℕ)
tables_read (table name clauses) = name ∷ []
tables_read (join kind l r on clauses) = tables_read l ++ tables_read r
tables_read (product sides clauses) = map (λ side. side.table) sides

-- THE WHOLE DATABASE

-- the database that all streams of the root describe; of the streams it has those alone that were read
pub record IsDatabaseSeen (root : Streams) (d : Kept) : Type 0 where
  pub raw : Pool
  pub pools : RawPoolIs root raw
  pub whole : Kept
  pub read : database_read raw root ≡ Some whole
  pub database : d.database ≡ whole.database
  pub streams : AreStreamsOf root d.streams

abbrev pub table_keys : List TableDef → List (List ℕ)
table_keys tables = map (λ t. table_key t.name) tables

-- No more bytes were read than the streams of the pool, of the system tables and of the tables have; before it is known
-- which tables there are, none of theirs
pub record ReadsDatabase (old new : View) : Type 0 where
  pub tables : List TableDef
  pub read : ReadsStreams old new (catalog_names ++ table_keys tables)
  pub described : (tables ≡ []) ⊎ ((file : List ℕ) → Tells old.held file
      → (pool : Pool) × IsCatalog (root_in file old) pool tables)

-- THE VIEW

-- what was read of the tables before is what they are
abbrev pub IsLook : View → Option Catalogued → Type 0
IsLook v catalog = (file : List ℕ) → Tells v.held file
    → IfSome catalog (λ c. IsCatalog (root_in file v) c.pool c.tables × AreStreamsOf (root_in file v) c.streams
    × IsSchemaLoaded (root_in file v) c.streams)
