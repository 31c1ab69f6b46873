-- Scaffolding of proofs: the streams of tables, taken out of those of a container one after the other.
use Rattle.std.specs.Prelude.{ℕ, List, [], ◌∷◌, filter_map, Option, Some, None, if◌then◌else◌}
use Rattle.std.specs.FinMap.{put}
use Rattle.msi_base.specs.Lists.{list_cmp}
use Rattle.msi_database_schema.specs.Keys.{is_pool_name}
use Rattle.msi_database_storage.specs.Streams.{Streams, stream_at, without_stream}
use Rattle.msi_transform.specs.declared.table_streams.TableStream.{TableStream}
use Rattle.msi_transform.specs.TransformFiles.{is_table_key, text_of_key}

-- the stream of a table, by its name
abbrev pub table_stream_of : List ℕ → Option TableStream
table_stream_of key = if is_table_key key then Some (record { key = key; name = text_of_key key }) else None

abbrev pub table_streams_among : Streams → List TableStream
table_streams_among streams = filter_map (λ s. table_stream_of s.0) streams

-- the streams without these
abbrev pub without_tables : List TableStream → Streams → Streams
without_tables [] streams = streams
without_tables (t ∷ ts) streams = without_stream t.key (without_tables ts streams)

-- the records with those of a table, which its stream has, unless it is one of the pool's
abbrev pub with_records : TableStream → Option (List ℕ) → List (List ℕ × List ℕ) → List (List ℕ × List ℕ)
with_records t None tables = tables
with_records t (Some bytes) tables = if is_pool_name t.name then tables else put list_cmp t.name bytes tables

abbrev pub records_taken : List TableStream → Streams → List (List ℕ × List ℕ)
records_taken [] streams = []
records_taken (t ∷ ts) streams =
    with_records t (stream_at t.key (without_tables ts streams)) (records_taken ts streams)
