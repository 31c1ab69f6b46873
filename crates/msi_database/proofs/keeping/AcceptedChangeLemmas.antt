-- What an accepted change brings, where each of its steps is tracked and its rows describe its tables, keeps a database.
use Rattle.std.proofs.Common.{◌≡◌, ℕ, Bool, true, false, List, [], ◌∷◌, bytes_eq, length, Some, refl, sym, ap, subst, ◌∙◌}
use Rattle.std.specs.Prelude.{MatchBool}
use Rattle.std.specs.List.{list_any, list_all, AllByRecursion}
use Rattle.std.specs.FinMap.{find}
use Rattle.std.proofs.lemmas.Bool.{and_parts}
use Rattle.msi_base.specs.Lists.{list_cmp}
use Rattle.msi_container_format.specs.Names.{is_name_length}
use Rattle.msi_table_cells.specs.declared.cell.ValueRef.{ValueRef}
use Rattle.msi_table_values.specs.Columns.{types_of}
use Rattle.msi_table_cells.specs.Fitting.{FitsRow}
use Rattle.msi_table_cells.specs.TableCells.{TableCells}
use Rattle.msi_database_schema.specs.Keys.{is_table_name}
use Rattle.msi_database_schema.specs.System.{validation_name, validation_columns}
use Rattle.msi_database_schema.specs.Schema.{schema_of}
use Rattle.msi_database_schema.proofs.OrderlessLemmas.{HasKinds}
use Rattle.msi_database_changes.specs.Database.{Database, Tables, has_table, is_sound, table_at}
use Rattle.msi_database_changes.specs.Changes.{Change}
use Rattle.msi_database_changes.proofs.steps.StoredLemmas.{WellFormed}
use Rattle.msi_database_changes.proofs.describing.ShownTablesLemmas.{shown}
use Rattle.msi_database_changes.proofs.describing.DescribingLemmas.{describing}
use Rattle.msi_database_changes.proofs.text_counts.PoolStepLemmas.{PlacesKept, kept_from, counts_from, freed_from}
use Rattle.msi_database_changes.proofs.steps.TracksLemmas.{Tracks}
use Rattle.msi_database_changes.proofs.soundness.RegularLemmas.{IsRegular}
use Rattle.msi_database_storage.specs.Streams.{Streams, stored_rows, stored_streams}
use Rattle.msi_database_storage.specs.Kept.{Kept, with_change}
use Rattle.msi_database_storage.specs.Agreement.{TablesAre, UnlistedIs}
use Rattle.msi_database.specs.Keeping.{IsKeptDatabase}
use Rattle.msi_database_schema.proofs.KeyLemmas.{validation_accepted, table_key_is_name}
use Rattle.msi_database_storage.proofs.StreamLemmas.{tables_found}
use Rattle.msi_database.proofs.soundness.SoundLemmas.{sound_names, sound_pool}
use Rattle.msi_database_storage.proofs.StoredLemmas.{AreNames, IsStoredOrStays, tables_are, rows_stay, all_sorted, all_names}
use Rattle.msi_database.proofs.soundness.SchemaLemmas.{tables_sorted}
use Rattle.msi_database.proofs.soundness.FitLemmas.{regular_by, rows_fit}
use Rattle.msi_database.proofs.soundness.DescribedLemmas.{Spelled, table_rows, schema_before, schema_after}
use Rattle.msi_database.proofs.soundness.KindsLemmas.{kinds_there}

pub are_names : (names : List (List ℕ)) → list_all is_table_name names ≡ true → AreNames names
are_names [] h = tt
are_names (n ∷ ns) h = let p = and_parts (is_table_name n) (list_all is_table_name ns) h in (p.0, are_names ns p.1)

-- A KEPT DATABASE THAT IS SOUND

module _ (k : Kept) (h : IsKeptDatabase k) (sound : is_sound k.database ≡ true) where
  pub spelled : Spelled k.streams k.database
  spelled = record { tables = h.spelled.tables; unlisted = h.spelled.unlisted; sound = sound }

  pub regular : IsRegular k.database
  regular = regular_by k.database sound (tables_sorted k.streams k.database h.spelled.schema) h.rows h.unlisted

  -- its rows describe its tables
  pub describes : schema_of (describing k.database) ≡ Some (shown k.database)
  describes = schema_before k.streams k.database spelled h.spelled.schema

  pub kinds : HasKinds (describing k.database)
  kinds = kinds_there k.streams k.database spelled regular describes

  pub places_kept : PlacesKept k.database.pool.places
  places_kept = kept_from k.database.pool.places h.counts (h.freed sound)

-- WHAT A CHANGE BRINGS

pub record Comes (d : Database) (c : Change) : Type 0 where
  pub tracks : Tracks d c
  pub sound : is_sound c.database ≡ true
  pub well : WellFormed c.database
  pub schema : schema_of (describing c.database) ≡ Some (shown c.database)
  pub unlisted : c.database.unlisted_validation ≡ d.unlisted_validation
  pub listed : has_table validation_name c.database ≡ has_table validation_name d
  pub unstored : has_table validation_name d ≡ false → list_any (bytes_eq validation_name) c.stored ≡ false

module _ (k : Kept) (c : Change) (h : IsKeptDatabase k) (sound : is_sound k.database ≡ true) (comes : Comes k.database c) where
  abbrev d : Database
  d = k.database

  abbrev after : Streams
  after = stored_streams c.database c.stored k.streams

  abbrev names : AreNames c.stored
  names = are_names c.stored comes.tracks.names

  kept_by : (name : List ℕ) (t : TableCells) (b : Bool) → list_any (bytes_eq name) c.stored ≡ b → table_at name c.database ≡ Some t → IsStoredOrStays c.database c.stored k.streams (name, t)
  kept_by name t true e found = rw e (comes.tracks.fits (regular k h sound).fit name t found)
  kept_by name t false e found = rw e (table_rows k.streams d.pool.long d.tables h.spelled.tables name t (sym (comes.tracks.others name e) ∙ found)
      ∙ ap (λ (long : Bool). stored_rows k.streams long t.columns name) (sym comes.tracks.long))

  each_kept : (ts : Tables) → AllByRecursion (λ t. find list_cmp t.0 c.database.tables ≡ Some t.1) ts → AllByRecursion (IsStoredOrStays c.database c.stored k.streams) ts
  each_kept [] found = tt
  each_kept (t ∷ ts) found = (kept_by t.0 t.1 (list_any (bytes_eq t.0) c.stored) refl found.0, each_kept ts found.1)

  tables_after : TablesAre after c.database
  tables_after = tables_are c.database c.stored k.streams comes.well.in_order (sound_names c.database comes.sound) names (each_kept c.database.tables (tables_found c.database.tables comes.well.in_order))

  unlisted_by : (b : Bool) → has_table validation_name d ≡ b → UnlistedIs after c.database
  unlisted_by true e =
      let was = subst (λ b. MatchBool b (d.unlisted_validation ≡ []) (stored_rows k.streams d.pool.long validation_columns validation_name ≡ Some d.unlisted_validation)) e h.spelled.unlisted in
      subst (λ b. MatchBool b (c.database.unlisted_validation ≡ []) (stored_rows after c.database.pool.long validation_columns validation_name ≡ Some c.database.unlisted_validation)) (sym (comes.listed ∙ e))
      (comes.unlisted ∙ was)
  unlisted_by false e =
      let was = subst (λ b. MatchBool b (d.unlisted_validation ≡ []) (stored_rows k.streams d.pool.long validation_columns validation_name ≡ Some d.unlisted_validation)) e h.spelled.unlisted in
      subst (λ b. MatchBool b (c.database.unlisted_validation ≡ []) (stored_rows after c.database.pool.long validation_columns validation_name ≡ Some c.database.unlisted_validation)) (sym (comes.listed ∙ e))
      (rows_stay c.database validation_name validation_columns c.stored k.streams validation_accepted names (comes.unstored e)
      ∙ ap (λ (long : Bool). stored_rows k.streams long validation_columns validation_name) comes.tracks.long ∙ was ∙ ap Some (sym comes.unlisted))

  unlisted_after : UnlistedIs after c.database
  unlisted_after = unlisted_by (has_table validation_name d) refl

  places_after : PlacesKept c.database.pool.places
  places_after = comes.tracks.kept (places_kept k h sound)

  pub comes_kept : IsKeptDatabase (with_change k c)
  comes_kept = record {
    in_order = all_sorted c.database c.stored k.streams h.in_order;
    names = all_names c.database (λ key. is_name_length (length key) ≡ true) table_key_is_name c.stored k.streams names h.names;
    spelled = record {
      tables = tables_after;
      unlisted = unlisted_after;
      schema = schema_after after c.database (record { tables = tables_after; unlisted = unlisted_after; sound = comes.sound }) comes.schema;
    };
    rows = rows_fit c.database comes.well.in_order (comes.tracks.fits (regular k h sound).fit);
    unlisted = subst (λ (rows : List (List ValueRef)). AllByRecursion (FitsRow c.database.pool.long (types_of validation_columns)) rows) (sym comes.unlisted)
        (subst (λ (long : Bool). AllByRecursion (FitsRow long (types_of validation_columns)) d.unlisted_validation) (sym comes.tracks.long) h.unlisted);
    few = sound_pool c.database comes.sound;
    counts = counts_from c.database.pool.places places_after;
    freed = λ _. freed_from c.database.pool.places places_after;
  }
