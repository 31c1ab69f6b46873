-- The tables that are read of the loaded streams are those that the root describes.
use Rattle.std.proofs.Common.{◌≡◌, ℕ, Bool, List, [], ◌∷◌, map, Option, Some, None, option_map, is_some, refl, sym, ap, subst, ◌∙◌}
use Rattle.std.specs.Prelude.{IfSome, IsSome, IsSomeAnd}
use Rattle.std.specs.FinMap.{empty, entries, get-empty, get-entries}
use Rattle.std.specs.List.{AllByRecursion}
use Rattle.std.proofs.lemmas.Bool.{true≢false}
use Rattle.msi_base.specs.declared.errors.ErrorKind.{ErrorKind}
use Rattle.msi_base.specs.declared.errors.ErrorKind.TheVariants.{InvalidData}
use Rattle.msi_base.specs.Refusals.{IsRefusal, or_refused}
use Rattle.msi_container_format.specs.declared.contents.Contents.{Contents}
use Rattle.msi_container_format.specs.Names.{name_cmp}
use Rattle.msi_container_view.specs.Reading.{Tells}
use Rattle.msi_container_view.specs.Views.{View, contents_in}
use Rattle.msi_database_schema.specs.Keys.{string_data_name, string_pool_name, table_key}
use Rattle.msi_database_schema.specs.System.{columns_columns, columns_name, tables_columns, tables_name, validation_columns, validation_name}
use Rattle.msi_database_storage.specs.Agreement.{described_by, schema_in}
use Rattle.msi_database_storage.specs.Streams.{Streams, stream_at}
use Rattle.msi_pool.specs.Pool.{Entry, IsPool, IsPoolStream, Pool}
use Rattle.msi_table_cells.specs.CellValues.{row_values}
use Rattle.msi_table_values.specs.Columns.{ColumnDef}
use Rattle.msi.specs.Meaning.{Passes, RawPoolIs, has_pool, has_texts, reads_pool, reads_schema, reads_texts}
use Rattle.msi.proofs.meaning.AgreementLemmas.{schema_same, stored_same}
use Rattle.msi.proofs.reading.OpenStepLemmas.{schema_stops, stops_after}
use Rattle.msi_container_device.specs.Held.{bytes_told}
use Rattle.msi_view.specs.Looking.{AreStreamsOf, Catalogued, IsCatalog, IsLoaded, IsLook, IsPartRefusal, IsSchemaLoaded, root_in, table_steps}
use Rattle.msi_view.proofs.catalog_lemmas.PartLemmas.{refused_by_steps}
use Rattle.msi_view.proofs.loading_lemmas.LoadedLemmas.{root_on}

-- no stream was read yet
none_read : (name : List ℕ) → stream_at name (entries (empty {X = List ℕ} {R = name_cmp})) ≡ None
none_read name = sym (get-entries (empty {X = List ℕ} {R = name_cmp}) name) ∙ get-empty name_cmp name

pub no_streams_of : (root : Streams) → AreStreamsOf root (entries (empty {X = List ℕ} {R = name_cmp}))
no_streams_of root name there = absurd (true≢false (sym there ∙ ap is_some (none_read name)))

-- THE SCHEMA OF THE STREAMS THAT WERE LOADED

described_loaded : (root loaded : Streams) (pool : Pool) (columns : List ColumnDef) (name : List ℕ) → IsLoaded root loaded (table_key name)
    → described_by loaded pool columns name ≡ described_by root pool columns name
described_loaded root loaded pool columns name is = ap (option_map (map (row_values pool.places))) (stored_same root loaded pool.long columns name is)

pub schema_loaded : (root loaded : Streams) (pool : Pool)
    → IsSchemaLoaded root loaded → schema_in loaded pool ≡ schema_in root pool
schema_loaded root loaded pool are = schema_same root loaded pool pool (record {
  tables = described_loaded root loaded pool tables_columns tables_name are.1;
  columns = described_loaded root loaded pool columns_columns columns_name are.2;
  validation = described_loaded root loaded pool validation_columns validation_name are.0;
})

-- WHERE IT ISN'T READ

pool_parts : (o p : Option (List ℕ)) (raw : Pool) → IsSomeAnd o (λ written. IsSomeAnd p (λ texts. IsPool written texts raw))
    → IsSome o × IsSome p × (listed : List Entry) × IsSomeAnd o (λ b. IsPoolStream b (record { page = raw.page; long = raw.long; entries = listed }))
pool_parts None p raw h = absurd h
pool_parts (Some written) None raw h = absurd h
pool_parts (Some written) (Some texts) raw (listed, form, held) = (refl, refl, listed, form)

passes_pool : (c : Contents) (raw : Pool) → RawPoolIs (entries c.streams) raw → AllByRecursion (Passes c) (has_pool ∷ reads_pool ∷ has_texts ∷ reads_texts ∷ [])
passes_pool c raw held =
    let parts = pool_parts (stream_at (table_key string_pool_name) (entries c.streams)) (stream_at (table_key string_data_name) (entries c.streams)) raw held in
    (parts.0, ((raw.page, raw.long, parts.2, parts.3), (parts.1, ((raw, held), tt))))

pub schema_refused : (can_fail : Bool) (v : View) (loaded : Streams) (raw : Pool) (kind : ErrorKind)
    → ((file : List ℕ) → Tells v.held file → RawPoolIs (root_in file v) raw)
    → ((file : List ℕ) → Tells v.held file → (other : Pool) → RawPoolIs (root_in file v) other → raw ≡ other)
    → ((file : List ℕ) → Tells v.held file → schema_in loaded raw ≡ schema_in (root_in file v) raw)
    → IsRefusal (or_refused InvalidData (schema_in loaded raw)) kind → IsPartRefusal can_fail v table_steps kind
schema_refused can_fail v loaded raw kind held one same refused = refused_by_steps can_fail v table_steps kind (λ file told.
    stops_after (contents_in file v) kind (has_pool ∷ reads_pool ∷ has_texts ∷ reads_texts ∷ []) (reads_schema ∷ []) (passes_pool (contents_in file v) raw (held file told))
    (schema_stops (contents_in file v) kind raw (one file told) (subst (λ s. IsRefusal (or_refused InvalidData s) kind) (same file told) refused)))

-- what was looked at before
pub looked_at : (v : View) (catalog : Option Catalogued) (c : Catalogued) → catalog ≡ Some c → IsLook v catalog
    → (file : List ℕ) → Tells v.held file → IsCatalog (root_in file v) c.pool c.tables × AreStreamsOf (root_in file v) c.streams × IsSchemaLoaded (root_in file v) c.streams
looked_at v catalog c is look file told =
    subst (λ (o : Option Catalogued). IfSome o (λ c. IsCatalog (root_in file v) c.pool c.tables × AreStreamsOf (root_in file v) c.streams × IsSchemaLoaded (root_in file v) c.streams)) is (look file told)

-- it stays so while more streams are read
pub still_looked : (mid new : View) (catalog : Option Catalogued) (c : Catalogued) (after : Streams) → bytes_told new.held ≡ bytes_told mid.held → new.streams ≡ mid.streams
    → catalog ≡ Some c → IsLook mid catalog
    → ((file : List ℕ) → Tells mid.held file → AreStreamsOf (root_in file mid) c.streams → AreStreamsOf (root_in file mid) after)
    → ((file : List ℕ) → Tells mid.held file → (other : List ℕ) → IsLoaded (root_in file mid) c.streams other → IsLoaded (root_in file mid) after other)
    → IsLook new (Some (record { pool = c.pool; tables = c.tables; streams = after }))
still_looked mid new catalog c after tells same is look streams others =
    root_on new mid (sym tells) (sym same) (λ root. IsCatalog root c.pool c.tables × AreStreamsOf root after × IsSchemaLoaded root after)
    (λ file told.
    let h = looked_at mid catalog c is look file told in
    (h.0, streams file told h.1, (others file told (table_key validation_name) h.2.0, others file told (table_key tables_name) h.2.1, others file told (table_key columns_name) h.2.2)))
