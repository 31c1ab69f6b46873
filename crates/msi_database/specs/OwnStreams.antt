-- Streams of tables are their own.
use Rattle.std.specs.Prelude.{◌≡◌, ◌≢◌, ℕ, true, List}
use Rattle.msi_database_schema.specs.Keys.{is_stream_name, is_table_name, signature_ex_key, signature_key, stream_key}
use Rattle.msi_database_schema.specs.Keys.{string_data_name, string_pool_name, summary_key, table_key}

-- the stream of an accepted table name is no other such name's, and not the pool's, the summary's, a signature's or a
-- user's
pub record HasOwnStream (name : List ℕ) : Type 0 where
  pub tables : (other : List ℕ) → is_table_name other ≡ true → table_key name ≡ table_key other → name ≡ other
  pub pool : table_key name ≢ table_key string_pool_name
  pub texts : table_key name ≢ table_key string_data_name
  pub summary : table_key name ≢ summary_key
  pub signature : table_key name ≢ signature_key
  pub signature_ex : table_key name ≢ signature_ex_key
  pub users : (stream : List ℕ) → is_stream_name stream ≡ true → table_key name ≢ stream_key stream

abbrev pub TablesHaveOwnStreams : Type 0
TablesHaveOwnStreams = (name : List ℕ) → is_table_name name ≡ true → HasOwnStream name
