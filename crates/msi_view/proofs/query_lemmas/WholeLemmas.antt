-- The whole database is seen by the streams of the system tables and of all tables: where those were read, it is the one of the root, and that of the opened package.
use Rattle.std.proofs.Common.{◌≡◌, ℕ, ◌==◌, Bool, List, [], ◌∷◌, ◌++◌, map, Option, Some, None, is_some, unwrap_or, refl, sym, ap, ◌∙◌}
use Rattle.std.specs.Prelude.{if◌then◌else◌, option_map}
use Rattle.std.specs.List.{AllByRecursion, list_any}
use Rattle.std.proofs.lemmas.List.Elements.{recursion_from_All}
use Rattle.std.proofs.lemmas.Option.{none-some, same_Some}
use Rattle.msi_pool.specs.Pool.{Pool, with_named_texts}
use Rattle.msi_table.specs.Census.{numbers_of_rows}
use Rattle.msi_table.specs.Tables.{TableDef}
use Rattle.msi_table.specs.ValueRef.{ValueRef}
use Rattle.msi_table_values.specs.Columns.{ColumnDef}
use Rattle.msi_database_schema.specs.Keys.{table_key}
use Rattle.msi_database_schema.specs.Schema.{table_with}
use Rattle.msi_database_schema.specs.System.{validation_columns, validation_name}
use Rattle.msi_database.specs.Database.{Database, named_numbers}
use Rattle.msi_database.specs.Transforming.{database_read, read_with, shown_with}
use Rattle.msi_database.proofs.keeping.KeptPartsLemmas.{parts_make}
use Rattle.msi_database_storage.specs.Agreement.{DatabaseIs, is_shown, schema_in}
use Rattle.msi_database_storage.specs.Kept.{AreAsLong, Kept, database_kept, schema_listed, table_kept, table_kept_at, unlisted_kept}
use Rattle.msi_database_storage.specs.Streams.{Streams, has_stream_at, stored_rows, stream_at}
use Rattle.msi.specs.Meaning.{RawPoolIs, shown_pool}
use Rattle.msi.proofs.meaning.AgreementLemmas.{stored_same}
use Rattle.msi_view.specs.Looking.{AreStreamsOf, AreTablesLoaded, IsCatalog, IsDatabaseSeen, IsLoaded, IsSchemaLoaded}
use Rattle.msi_view.proofs.catalog_lemmas.SchemaLemmas.{schema_loaded}
use Rattle.msi_view.proofs.query_lemmas.OpenedLemmas.{listed_again, tables_opened}

-- ALL ROWS

module _ (root loaded : Streams) (long : Bool) where
  cells_kept : (t : TableDef) → IsLoaded root loaded (table_key t.name) → table_kept loaded long t ≡ table_kept root long t
  cells_kept t is = λ i. (t.name, record { columns = t.columns; rows = stored_same root loaded long t.columns t.name is i })

  each_kept : (ts : List TableDef) → AllByRecursion (λ t. IsLoaded root loaded (table_key t.name)) ts → map (table_kept loaded long) ts ≡ map (table_kept root long) ts
  each_kept [] are = refl
  each_kept (t ∷ ts) are = λ i. cells_kept t are.0 i ∷ each_kept ts are.1 i

  validation_kept : IsSchemaLoaded root loaded → stored_rows loaded long validation_columns validation_name ≡ stored_rows root long validation_columns validation_name
  validation_kept schema = stored_same root loaded long validation_columns validation_name schema.0

  rows_beside : (tables : List TableDef) → IsSchemaLoaded root loaded → unlisted_kept loaded long tables ≡ unlisted_kept root long tables
  rows_beside tables schema = ap (λ (o : Option (List (List ValueRef))). if is_some (table_kept_at validation_name tables) then [] else unwrap_or o []) (validation_kept schema)

-- THE DATABASE THAT IS READ OF THEM

module _ (root loaded : Streams) (raw : Pool) (tables : List TableDef) (schema : IsSchemaLoaded root loaded) (all : AreTablesLoaded root loaded tables) where
  abbrev tables_are : map (table_kept loaded raw.long) tables ≡ map (table_kept root raw.long) tables
  tables_are = each_kept root loaded raw.long tables (recursion_from_All (λ t. IsLoaded root loaded (table_key t.name)) tables all)

  -- the same places are named
  named_alike : (number : ℕ) → is_shown loaded (database_kept raw tables loaded) number ≡ is_shown root (database_kept raw tables root) number
  named_alike number = λ i. list_any (λ n. n == number)
      (named_numbers (record { pool = raw; tables = tables_are i; unlisted_validation = rows_beside root loaded raw.long tables schema i })
      ++ numbers_of_rows (unwrap_or (validation_kept root loaded raw.long schema i) []))

  shown_alike : shown_with raw tables loaded ≡ shown_with raw tables root
  shown_alike = λ i. record raw { places = with_named_texts (λ number. named_alike number i) raw.places }

  database_alike : database_kept (shown_with raw tables loaded) tables loaded ≡ database_kept (shown_with raw tables root) tables root
  database_alike = λ i. record { pool = shown_alike i; tables = tables_are i; unlisted_validation = rows_beside root loaded raw.long tables schema i }

pub read_of : (raw : Pool) (tables : List TableDef) (streams : Streams) → schema_in streams raw ≡ Some (schema_listed tables) → AreAsLong raw.long tables
    → database_read raw streams ≡ Some (read_with raw streams tables)
read_of raw tables streams described long =
    ap (option_map (λ listed. read_with raw streams (map (table_with raw.long) listed))) described
    ∙ ap (λ (ts : List TableDef). Some (read_with raw streams ts)) (listed_again raw.long tables long)

pub whole_seen : (root loaded : Streams) (raw : Pool) (tables : List TableDef) (d : Kept) → IsCatalog root raw tables → AreStreamsOf root loaded → IsSchemaLoaded root loaded → AreTablesLoaded root loaded tables
    → database_read raw loaded ≡ Some d → d.streams ≡ loaded → IsDatabaseSeen root d
whole_seen root loaded raw tables d catalog are schema all read kept =
    let described : schema_in loaded raw ≡ Some (schema_listed tables) = schema_loaded root loaded raw schema ∙ catalog.schema in
    let is : d ≡ read_with raw loaded tables = same_Some d (read_with raw loaded tables) (sym read ∙ read_of raw tables loaded described catalog.long) in
    record {
      raw = raw;
      pools = catalog.pools;
      whole = read_with raw root tables;
      read = read_of raw tables root catalog.schema catalog.long;
      database = ap (λ (k : Kept). k.database) is ∙ database_alike root loaded raw tables schema all;
      streams = λ name there. ap (λ (streams : Streams). stream_at name streams) kept ∙ are name (sym (ap (λ (streams : Streams). has_stream_at name streams) kept) ∙ there);
    }

-- THE DATABASE OF AN OPENED PACKAGE

described_as : (long : Bool) (listed : List (List ℕ × List ColumnDef)) → listed ≡ schema_listed (map (table_with long) listed)
described_as long [] = refl
described_as long (t ∷ ts) = ap (λ (us : List (List ℕ × List ColumnDef)). t ∷ us) (described_as long ts)

as_long : (long : Bool) (listed : List (List ℕ × List ColumnDef)) → AreAsLong long (map (table_with long) listed)
as_long long [] = tt
as_long long (t ∷ ts) = (refl, as_long long ts)

-- what is made of something is made of a value
value_made : {X Y : Type 0} (f : X → Y) (o : Option X) (y : Y) → option_map f o ≡ Some y → (x : X) × (o ≡ Some x) × (f x ≡ y)
value_made f None y is = absurd (none-some y is)
value_made f (Some x) y is = (x, refl, same_Some (f x) y is)

module _ (root : Streams) (d : Database) (raw : Pool) (tables : List TableDef) (catalog : IsCatalog root raw tables) (spelled : DatabaseIs root d) (is : d.pool ≡ shown_pool (is_shown root d) raw) where
  own : database_kept d.pool tables root ≡ d
  own = parts_make root d tables spelled (sym (tables_opened root d raw tables catalog spelled is))

  wide : d.pool.long ≡ raw.long
  wide = ap (λ (p : Pool). p.long) is

  pool_shown : d.pool ≡ shown_with raw tables root
  pool_shown =
      is ∙ ap (λ (e : Database). shown_pool (is_shown root e) raw) (sym own)
      ∙ (λ i. shown_pool (is_shown root (database_kept (record raw { long = wide i }) tables root)) raw)

  read_opened : database_kept (shown_with raw tables root) tables root ≡ d
  read_opened = ap (λ (p : Pool). database_kept p tables root) (sym pool_shown) ∙ own

pub whole_opened : (root : Streams) (d : Database) (raw : Pool) (whole : Kept) → DatabaseIs root d → RawPoolIs root raw → d.pool ≡ shown_pool (is_shown root d) raw
    → database_read raw root ≡ Some whole → whole.database ≡ d
whole_opened root d raw whole spelled pools is read =
    let (listed, described, made) = value_made (λ listed. read_with raw root (map (table_with raw.long) listed)) (schema_in root raw) whole read in
    let tables : List TableDef = map (table_with raw.long) listed in
    let catalog : IsCatalog root raw tables = record { pools = pools; schema = described ∙ ap Some (described_as raw.long listed); long = as_long raw.long listed } in
    ap (λ (k : Kept). k.database) (sym made) ∙ read_opened root d raw tables catalog spelled is
