-- The file of a transform that was made: its streams, and when it isn't written.
use Rattle.std.specs.Prelude.{◌≡◌, ℕ, ◌%◌, ◌^◌, ◌<◌, ◌≤◌, ◌++◌, Bool, false, not, List, length, drop, Option, Some, T}
use Rattle.std.specs.Prelude.{option_map, option_and_then, if◌then◌else◌, ◌||◌, ◌⊎◌, IsTrue}
use Rattle.std.specs.FinMap.{entries, is_sorted}
use Rattle.std.specs.List.{AllByRecursion, fold, list_any}
use Rattle.std.specs.Option.{option_map_or}
use Rattle.msi_base.specs.Lists.{list_cmp}
use Rattle.msi_base.specs.Pages.{page_with_id}
use Rattle.msi_base.specs.declared.codepage.CodePage.{CodePage}
use Rattle.msi_pool.specs.Pool.{AreWritable, CountsFit, PlacesWritten, Pool, data_stream, header_of, pool_stream}
use Rattle.msi_pool.specs.PoolWriting.{is_refused}
use Rattle.msi_container_format.specs.Names.{name_cmp, named}
use Rattle.msi_container_format.specs.declared.contents.Contents.{Contents}
use Rattle.msi_container_write.specs.Layout.{refuses}
use Rattle.msi_database_schema.specs.Keys.{is_table_name, summary_key, table_key}
use Rattle.msi_database_storage.specs.Streams.{Streams, with_stream}
use Rattle.msi_transform.specs.StoredPools.{data_key, pool_key}
use Rattle.msi_transform.specs.TransformFiles.{IsTransform, is_table_key, is_utf8, transform_clsid}
use Rattle.msi_transform.specs.Transforms.{TransformDef}

-- the pool's stream with another id of the page
abbrev pub with_page_id : ℕ → Bool → List ℕ → List ℕ
with_page_id page_id long bytes = header_of (page_id % 2 ^ 31) long ++ drop 4 bytes

-- the records of tables in streams of theirs; where the name is too long for a container there is none
abbrev pub with_table_stream : Streams → List ℕ × List ℕ → Streams
with_table_stream streams e = option_map_or (λ key. with_stream key e.1 streams) (named (table_key e.0)) streams

abbrev pub with_table_streams : List (List ℕ × List ℕ) → Streams → Streams
with_table_streams tables streams = fold with_table_stream streams tables

-- the pool's streams among others, with this id of its page; none where a text can't be written in the page
abbrev pub with_pool : ℕ → Pool → Streams → Option Streams
with_pool page_id pool streams = option_and_then (λ listed. option_map (λ texts.
    with_stream data_key texts (with_stream pool_key (with_page_id page_id pool.long listed) streams))
    (data_stream pool)) (pool_stream pool)

abbrev pub written_streams : TransformDef → Option Streams
written_streams t = with_pool t.page_id t.pool (with_table_streams t.tables t.streams)

-- a name that no table has, or a text that can't be written in the page
abbrev pub is_unwritable : TransformDef → Bool
is_unwritable t = list_any (λ e. not (is_table_name e.0)) t.tables || is_refused t.pool

-- the contents of a file of the transform
pub record AreWritten (t : TransformDef) (c : Contents) : Type 0 where
  pub clsid : c.clsid ≡ transform_clsid
  pub streams : written_streams t ≡ Some (entries c.streams)
  pub storages : c.has_storages ≡ false

-- with this stream as its summary, in place of one that is there
abbrev pub with_summary : List ℕ → TransformDef → TransformDef
with_summary bytes t = record t { streams = with_stream summary_key bytes t.streams }

-- with a neutral page, where its page is UTF-8
abbrev pub neutral_id : CodePage → ℕ → ℕ
neutral_id page id = if is_utf8 page then 0 else id

abbrev pub as_neutral : TransformDef → TransformDef
as_neutral t = record t { page_id = neutral_id t.pool.page t.page_id }

-- why it has no file: its streams can't be written, or the file would be too large
abbrev pub HasNoFile : TransformDef → Type 0
HasNoFile t = IsTrue (is_unwritable t) ⊎ ((c : Contents) × AreWritten t c × IsTrue (refuses c 0))

-- What a transform keeps to whose file reads as it: its page has the id that is stored; each text in use can be written
-- in the page and read back, and free places have none; and the tables and streams are in the order of their names,
-- none of the streams a table's
pub record IsMade (t : TransformDef) : Type 0 where
  pub small_id : t.page_id < 2 ^ 31
  pub page : page_with_id t.page_id ≡ Some t.pool.page
  pub texts : AreWritable t.pool
  pub free : PlacesWritten t.pool.places
  pub counts : CountsFit t.pool.places
  pub many : length t.pool.places ≤ 16777215
  pub tables : T (is_sorted list_cmp t.tables)
  pub streams : T (is_sorted name_cmp t.streams)
  pub others : AllByRecursion (λ s. is_table_key s.0 ≡ false) t.streams

-- what is written of such a transform is read as it
abbrev pub WrittenTransformsReadBack : Type 0
WrittenTransformsReadBack = (t : TransformDef) (c : Contents) → IsMade t → is_unwritable t ≡ false
    → AreWritten t c → IsTransform c t
