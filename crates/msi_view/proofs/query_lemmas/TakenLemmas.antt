-- The database of the catalog that is taken out of a view, and how much is read for it.
use Rattle.std.proofs.Common.{◌≡◌, ℕ, Bool, List, [], Option, Some, Result, Ok, Err, IfOk, IfErr, IfSome, inl, inr, refl}
use Rattle.msi_base.specs.declared.errors.ErrorKind.{ErrorKind}
use Rattle.msi_base.specs.declared.errors.ErrorKind.TheVariants.{InvalidData}
use Rattle.msi_base.specs.Refusals.{IsRefusal, or_refused}
use Rattle.msi_container_view.specs.Reading.{Tells}
use Rattle.msi_container_view.specs.Views.{View}
use Rattle.msi_database_schema.specs.Keys.{string_data_name, string_pool_name, table_key}
use Rattle.msi_database.specs.Transforming.{database_read}
use Rattle.msi_database_storage.specs.Agreement.{schema_in}
use Rattle.msi_database_storage.specs.Kept.{Kept}
use Rattle.msi_database_storage.specs.Streams.{stream_at}
use Rattle.msi.proofs.meaning.OneMeaningLemmas.{one_raw}
use Rattle.msi_view.specs.Looking.{AreStreamsOf, AreTablesLoaded, Catalogued, IsCatalog, IsDatabaseSeen, IsLook, IsPartRefusal, IsSchemaLoaded, ReadsDatabase, ReadsStreams, catalog_names, root_in, table_keys, table_steps}
use Rattle.msi_view.proofs.ViewLemmas.{looked}
use Rattle.msi_view.proofs.catalog_lemmas.SchemaLemmas.{schema_loaded, schema_refused}
use Rattle.msi_view.proofs.loading_lemmas.CountedLemmas.{reads_both, reads_fewer}
use Rattle.msi_view.proofs.query_lemmas.WholeLemmas.{whole_seen}

-- before it is known which tables there are
pub reads_before : (old new : View) → ReadsStreams old new catalog_names → ReadsDatabase old new
reads_before old new reads = record { tables = []; read = reads_fewer old new catalog_names [] reads; described = inl refl }

pub reads_after : (old mid new : View) (catalog : Option Catalogued) (c : Catalogued) → catalog ≡ Some c → IsLook mid catalog → ReadsStreams old mid catalog_names
    → ReadsStreams mid new (table_keys c.tables) → ReadsDatabase old new
reads_after old mid new catalog c some look first second = record {
  tables = c.tables;
  read = reads_both old mid new catalog_names (table_keys c.tables) first second;
  described = inr (λ file told. (c.pool, (looked old mid catalog c _ first look some file told).0));
}

module _ (old new : View) (catalog : Option Catalogued) (c : Catalogued) (some : catalog ≡ Some c) (look : IsLook new catalog) (reads : ReadsDatabase old new) where
  known : (file : List ℕ) → Tells old.held file → IsCatalog (root_in file old) c.pool c.tables × AreStreamsOf (root_in file old) c.streams × IsSchemaLoaded (root_in file old) c.streams
  known = looked old new catalog c _ reads.read look some

  pub database_given : (r : Result Kept ErrorKind) → ((file : List ℕ) → Tells old.held file → IfSome catalog (λ k. AreTablesLoaded (root_in file old) k.streams k.tables))
      → IfOk r (λ d. database_read c.pool c.streams ≡ Some d) → IfOk r (λ d. d.streams ≡ c.streams)
      → IfOk r (λ d. (file : List ℕ) → Tells old.held file → IsDatabaseSeen (root_in file old) d)
  database_given (Err kind) loaded read kept = tt
  database_given (Ok d) loaded read kept = λ file told.
      let h = known file told in
      let all : AreTablesLoaded (root_in file old) c.streams c.tables = rw some at (loaded file told) in
      whole_seen (root_in file old) c.streams c.pool c.tables d h.0 h.1 h.2 all read kept

  pub database_refused : (r : Result Kept ErrorKind) (can_fail : Bool) → IfErr r (IsRefusal (or_refused InvalidData (schema_in c.streams c.pool))) → IfErr r (IsPartRefusal can_fail old table_steps)
  database_refused (Ok d) can_fail refused = tt
  database_refused (Err kind) can_fail refused =
      schema_refused can_fail old c.streams c.pool kind (λ file told. (known file told).0.pools)
      (λ file told other is. one_raw (stream_at (table_key string_pool_name) (root_in file old)) (stream_at (table_key string_data_name) (root_in file old)) c.pool other (known file told).0.pools is)
      (λ file told. schema_loaded (root_in file old) c.streams c.pool (known file told).2) refused
