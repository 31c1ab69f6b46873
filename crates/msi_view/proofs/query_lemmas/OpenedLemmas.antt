-- What is looked at is what opening the package shows.
use Rattle.std.proofs.Common.{◌≡◌, ℕ, ◌==◌, Bool, List, [], ◌∷◌, map, Option, Some, None, unwrap_or, refl, sym, ap, subst, ◌∙◌}
use Rattle.std.specs.Prelude.{IfSome, option_map, slice_index_or}
use Rattle.std.specs.FinMap.{find}
use Rattle.std.specs.List.{flat_map}
use Rattle.std.proofs.lemmas.Bool.{or_left}
use Rattle.std.proofs.lemmas.List.Folds.{list_any-append}
use Rattle.std.proofs.lemmas.Option.{same_Some}
use Rattle.msi_base.specs.Lists.{list_cmp}
use Rattle.msi_pool.specs.FirstFitLaws.{text_at}
use Rattle.msi_pool.specs.Pool.{Pool}
use Rattle.msi_query.specs.Queries.{Query}
use Rattle.msi_query.specs.Rows.{table_values}
use Rattle.msi_query.specs.Selection.{relation_of}
use Rattle.msi_table.specs.Census.{numbers_of_rows}
use Rattle.msi_table.specs.Columns.{types_of}
use Rattle.msi_table.specs.TableCells.{TableCells}
use Rattle.msi_table.specs.Tables.{TableDef}
use Rattle.msi_table.specs.ValueRef.{ValueRef}
use Rattle.msi_database_schema.specs.Keys.{string_data_name, string_pool_name, table_key}
use Rattle.msi_database_schema.specs.Schema.{table_with}
use Rattle.msi_database.specs.Database.{Database, Tables, columns_by_name, named_numbers, rows_of, table_at, values_of}
use Rattle.msi_database.proofs.keeping.KeptPartsLemmas.{parts_make}
use Rattle.msi_database.proofs.soundness.DescribedLemmas.{table_rows}
use Rattle.msi_database.proofs.soundness.NamedPlacesLemmas.{found_any, numbers_of}
use Rattle.msi_database_storage.specs.Agreement.{DatabaseIs, is_shown, numbers_stored, schema_in, schema_rows}
use Rattle.msi_database_storage.specs.Kept.{AreAsLong, schema_listed, table_kept}
use Rattle.msi_database_storage.specs.Streams.{Streams, stream_at}
use Rattle.msi.specs.Meaning.{shown_pool}
use Rattle.msi.proofs.meaning.OneMeaningLemmas.{one_raw}
use Rattle.msi.proofs.meaning.ShownPoolLemmas.{CoversSchema, schema_by_raw}
use Rattle.msi.proofs.meaning.ShownTextsLemmas.{covers_schema}
use Rattle.msi_view.specs.Looking.{IsCatalog, database_seen, tables_read}
use Rattle.msi_view.proofs.query_lemmas.NamedTextLemmas.{AreAbove, HaveSameTexts, held_alike, rows_above, text_shown}
use Rattle.msi_view.proofs.query_lemmas.RelationLemmas.{relation_reads}

-- STREAMS DESCRIBE ONE CATALOG

pub listed_again : (long : Bool) (tables : List TableDef) → AreAsLong long tables → map (table_with long) (schema_listed tables) ≡ tables
listed_again long [] h = refl
listed_again long (t ∷ ts) h = λ i. record { name = t.name; columns = t.columns; long = sym h.0 i } ∷ listed_again long ts h.1 i

pub catalog_once : (root : Streams) (p q : Pool) (ts us : List TableDef) → IsCatalog root p ts → IsCatalog root q us → (p ≡ q) × (ts ≡ us)
catalog_once root p q ts us h k =
    let pools : p ≡ q = one_raw (stream_at (table_key string_pool_name) root) (stream_at (table_key string_data_name) root) p q h.pools k.pools in
    let listed : schema_listed ts ≡ schema_listed us = same_Some (schema_listed ts) (schema_listed us) (sym h.schema ∙ ap (schema_in root) pools ∙ k.schema) in (
      pools,
      sym (listed_again p.long ts h.long) ∙ (λ i. map (table_with (pools i).long) (listed i)) ∙ listed_again q.long us k.long,
    )

-- THE DATABASE OF AN OPENED PACKAGE

module _ (root : Streams) (d : Database) (pool : Pool) (tables : List TableDef) (catalog : IsCatalog root pool tables) (spelled : DatabaseIs root d) (is : d.pool ≡ shown_pool (is_shown root d) pool) where
  same_width : d.pool.long ≡ pool.long
  same_width = ap (λ (p : Pool). p.long) is

  -- it has the tables that are looked at
  pub tables_opened : columns_by_name d ≡ schema_listed tables
  tables_opened =
      let covers : CoversSchema root (is_shown root d) pool = covers_schema root d spelled.tables (schema_rows root d.pool) spelled.schema pool same_width in
      same_Some (columns_by_name d) (schema_listed tables) (sym spelled.schema ∙ ap (schema_in root) is ∙ schema_by_raw root (is_shown root d) pool covers ∙ catalog.schema)

  own_tables : (database_seen root pool tables).tables ≡ d.tables
  own_tables = ap (λ (long : Bool). map (table_kept root long) tables) (sym same_width) ∙ ap (λ (e : Database). e.tables) (parts_make root d tables spelled (sym tables_opened))

  -- a text that a cell of a table names is shown
  table_texts : (name : List ℕ) (t : TableCells) → table_at name d ≡ Some t → HaveSameTexts d.pool.places pool.places (numbers_of_rows (rows_of t))
  table_texts name t found n here some =
      ap (λ (p : Pool). text_at p.places n) is
      ∙ text_shown (is_shown root d) pool.places n some
      (list_any-append (λ m. m == n) (named_numbers d) (numbers_stored root d.pool.long)
      ∙ or_left _ _ (list_any-append (λ m. m == n) (flat_map numbers_of d.tables) (numbers_of_rows d.unlisted_validation)
      ∙ or_left _ _ (found_any (λ m. m == n) name t d.tables found here)))

  -- so its rows have the values that they have by the stored places
  table_alike : (name : List ℕ) (t : TableCells) → table_at name d ≡ Some t → table_values d.pool.places t ≡ table_values pool.places t
  table_alike name t found =
      let above : IfSome t.rows AreAbove = subst (λ (o : Option (List (List ValueRef))). IfSome o AreAbove) (sym (table_rows root d.pool.long d.tables spelled.tables name t found))
      (rows_above d.pool.long (types_of t.columns) (unwrap_or (stream_at (table_key name) root) [])) in
      λ i. record { columns = t.columns; rows = held_alike d.pool.places pool.places t.rows above (table_texts name t found) i }

  found_alike : (name : List ℕ) (o : Option TableCells) → table_at name d ≡ o → option_map (table_values d.pool.places) o ≡ option_map (table_values pool.places) o
  found_alike name None found = refl
  found_alike name (Some t) found = ap Some (table_alike name t found)

  pub values_opened : (name : List ℕ) → values_of d name ≡ values_of (database_seen root pool tables) name
  values_opened name = found_alike name (table_at name d) refl ∙ ap (λ (ts : Tables). option_map (table_values pool.places) (find list_cmp name ts)) (sym own_tables)

  -- and each query gives the same
  pub rows_opened : (q : Query) → relation_of (values_of d) q ≡ relation_of (values_of (database_seen root pool tables)) q
  rows_opened q = relation_reads (values_of d) (values_of (database_seen root pool tables)) q (λ k x l. values_opened (slice_index_or (tables_read q) k x))
