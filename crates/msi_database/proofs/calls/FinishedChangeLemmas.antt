-- The parts that a change leaves, each as a call has it in hand, are those of the database that the change leaves, which is kept and sound.
use Rattle.std.proofs.Common.{◌≡◌, ℕ, true, List, [], ◌∷◌, None, Ok, refl, sym, ap, subst, ◌∙◌, ◌⊎◌, inl, inr, ◌++◌, Some}
use Rattle.std.specs.FinMap.{entries, put}
use Rattle.msi_container_format.specs.Streams as maps
use Rattle.msi_base.specs.Lists.{list_cmp}
use Rattle.msi_base.proofs.OptionLemmas.{none_there}
use Rattle.msi_pool.specs.Pool.{Pool}
use Rattle.msi_table_cells.specs.declared.cell.ValueRef.{ValueRef}
use Rattle.msi_table_values.specs.Columns.{ColumnDef}
use Rattle.msi_table.specs.Tables.{TableDef}
use Rattle.msi_database_schema.specs.Keys.{table_key}
use Rattle.msi_database_changes.specs.Database.{Database, is_sound, columns_by_name}
use Rattle.msi_database_changes.specs.Changes.{Change, no_change, with_stored}
use Rattle.msi_database_changes.specs.Texts.{PoolInUse}
use Rattle.msi_database_changes.specs.Create.{create_at_width, table_refusals}
use Rattle.msi_database_changes.specs.Drop.{drop_table}
use Rattle.msi_database_changes.specs.AddColumn.{add_column_at_width}
use Rattle.msi_database_changes.proofs.steps.AtWidthLemmas.{IsChangeAtWidth, IsTableChangeAtWidth, created, dropped, column_added}
use Rattle.msi_database_changes.proofs.steps.RefusedLemmas.{none_holds}
use Rattle.msi_database_changes.proofs.describing.ShownTablesLemmas.{shown_created}
use Rattle.msi_database_changes.proofs.describing.ShownTablesLemmas as steps
use Rattle.msi_database_changes.proofs.describing.ShownChangesLemmas.{shown_changed, shown_dropped}
use Rattle.msi_database_changes.proofs.table_changes.DroppedLemmas.{without}
use Rattle.msi_database_changes.proofs.table_changes.ColumnAddedLemmas.{column_parts}
use Rattle.msi_database_changes.proofs.table_changes.ColumnDescribedLemmas.{shown_now}
use Rattle.msi_database_changes.specs.Database.{table_at}
use Rattle.msi_table_cells.specs.TableCells.{TableCells}
use Rattle.msi_pool.proofs.TakenLemmas.{taken_takes}
use Rattle.msi_database.proofs.soundness.GivenBackLemmas.{given_back_gives}
use Rattle.std.proofs.lemmas.Option.{same_Some}
use Rattle.msi_database_storage.specs.Streams.{Streams, stream_of_rows, stored_streams}
use Rattle.msi_database_changes.specs.declared.storing.Stored.{Stored}
use Rattle.msi_database_changes.specs.Storing.{stored_all}
use Rattle.msi_database_storage.specs.Storing.{stored_in, tables_stored}
use Rattle.msi_database_storage.specs.Kept.{Kept, kept_of, database_kept, with_change, AreAsLong, schema_listed, table_kept_at, with_table_kept, without_table_kept}
use Rattle.msi_database.specs.Keeping.{IsKeptDatabase, AreKept, AreParts}
use Rattle.msi_database.proofs.keeping.StreamEntriesLemmas.{entries_stored}
use Rattle.msi_database.proofs.soundness.SchemaLemmas.{shown_in_order}
use Rattle.msi_database.proofs.keeping.KeptPartsLemmas.{parts_make, schema_kept}
use Rattle.msi_database.proofs.keeping.TablesKeptLemmas.{has_table_kept}
use Rattle.msi_database.proofs.table_changes.TableListLemmas.{none_left, put_listed, put_as_long, put_without, without_listed, without_as_long}
use Rattle.msi_database_storage.proofs.EditLemmas.{tables_stored_in, rows_stored_first}
use Rattle.msi_database.proofs.keeping.AcceptedChangeLemmas.{Comes, describes, kinds, regular}
use Rattle.msi_database.proofs.keeping.KeepingLemmas.{change_comes, change_kept}

module _ (pool : Pool) (tables : List TableDef) (streams : Streams) (kept : AreKept pool tables streams true) where
  abbrev old : Kept
  old = kept_of pool tables streams

  abbrev d : Database
  d = database_kept pool tables streams

  pub known_sound : is_sound d ≡ true
  known_sound = sym kept.known

  -- ANY CHANGE

  module _ (c : Change) (change : IsChangeAtWidth d c ⊎ IsTableChangeAtWidth d c) (after : List TableDef) where
    comes : Comes d c
    comes = change_comes old c kept.kept known_sound change

    pub long_stays : c.database.pool.long ≡ pool.long
    long_stays = comes.tracks.long

    left : IsKeptDatabase (with_change old c) × (is_sound c.database ≡ true)
    left = change_kept old c kept.kept known_sound change

    module _ (listed : schema_listed after ≡ columns_by_name c.database) (as_long : AreAsLong pool.long after) where
      abbrev stored_now : Streams
      stored_now = stored_streams c.database c.stored streams

      made : database_kept c.database.pool after stored_now ≡ c.database
      made = parts_make stored_now c.database after left.0.spelled listed

      same : kept_of c.database.pool after stored_now ≡ with_change old c
      same i = record { database = made i; streams = stored_now }

      parts_left : AreParts (with_change old c) c.database.pool after stored_now
      parts_left = (
        same,
        record {
          kept = subst IsKeptDatabase (sym same) left.0;
          as_long = subst (λ long. AreAsLong long after) (sym long_stays) as_long;
          known = sym (ap is_sound made ∙ left.1);
        },
      )

    -- the pool is the change's, the tables' columns are those of its tables, and its streams were stored
    pub change_made : (new : Pool) (es : List Stored) → new ≡ c.database.pool → schema_listed after ≡ columns_by_name c.database → AreAsLong pool.long after → es ≡ tables_stored c.database c.stored
        → AreParts (with_change old c) new after (stored_in es streams)
    change_made new es pool_is listed as_long stored =
        let now : stored_in es streams ≡ stored_streams c.database c.stored streams = ap (λ (es : List Stored). stored_in es streams) stored ∙ tables_stored_in c.database c.stored streams in
        subst (λ (p : Pool). AreParts (with_change old c) p after (stored_in es streams)) (sym pool_is)
        (subst (λ (s : Streams). AreParts (with_change old c) c.database.pool after s) (sym now) (parts_left listed as_long))

  shown_old : columns_by_name d ≡ schema_listed tables
  shown_old = schema_kept pool tables streams

  -- A CHANGE OF ROWS: the tables stay, and the rows that are written are given their stored order

  pub rows_made : (c : Change) → IsChangeAtWidth d c → (name : List ℕ) (columns : List ColumnDef) (rows : List (List ValueRef)) (used : PoolInUse) → with_stored name columns rows used (no_change d) ≡ c
      → (new : Pool) (e : Stored) → new ≡ record pool { places = used.places } → e.name ≡ table_key name → e.bytes ≡ stream_of_rows pool.long columns rows
      → AreParts (with_change old c) new tables (stored_in (e ∷ []) streams)
  rows_made c change name columns rows used is new e pool_is name_is bytes_is =
      let edit : (e ∷ []) ≡ tables_stored c.database c.stored =
      (λ i. record { name = name_is i; bytes = bytes_is i } ∷ []) ∙ sym (rows_stored_first d name columns rows used)
      ∙ ap (λ (x : Change). tables_stored x.database x.stored) is in
      change_made c (inl change) tables new (e ∷ []) (pool_is ∙ ap (λ (x : Change). x.database.pool) is)
      (sym shown_old ∙ sym (shown_changed d c (shown_in_order streams d kept.kept.spelled.schema) change)) kept.as_long edit

  -- A TABLE CREATED: it is put in among the others

  pub create_kept : (name : List ℕ) (columns : List ColumnDef) (c : Change) → create_at_width d name columns ≡ Ok c → (new : Pool) (es : List Stored)
      → new ≡ c.database.pool → es ≡ tables_stored c.database c.stored
      → AreParts (with_change old c) new (with_table_kept (record { name = name; columns = columns; long = pool.long }) tables) (stored_in es streams)
  create_kept name columns c e new es pool_is edit =
      let t : TableDef = record { name = name; columns = columns; long = pool.long } in
      let r = steps.created d name columns c e in
      let faults = none_holds (table_refusals d name columns) r.accepted in
      let missing : table_kept_at name tables ≡ None = none_there (table_kept_at name tables) (sym (has_table_kept pool tables streams name) ∙ faults.1.1.1.1.1.1.1.0) in
      change_made c (inr (created name columns e)) (with_table_kept t tables) new es pool_is
      (put_listed t tables missing ∙ ap (put list_cmp name columns) (sym shown_old) ∙ sym (shown_created d name columns c (shown_in_order streams d kept.kept.spelled.schema) e))
      (put_as_long t pool.long tables refl kept.as_long) edit

  -- A TABLE DROPPED: it is taken out

  pub drop_kept : (name : List ℕ) (c : Change) → drop_table d name ≡ Ok c → (new : Pool) (es : List Stored)
      → new ≡ c.database.pool → es ≡ tables_stored c.database c.stored
      → AreParts (with_change old c) new (without_table_kept name tables) (stored_in es streams)
  drop_kept name c e new es pool_is edit =
      change_made c (inr (dropped name e)) (without_table_kept name tables) new es pool_is
      (without_listed name tables ∙ ap (without name) (sym shown_old) ∙ sym (shown_dropped d name c (shown_in_order streams d kept.kept.spelled.schema) e))
      (without_as_long name pool.long tables kept.as_long) edit

  -- A COLUMN ADDED: the table is put in the place of what it was

  pub column_kept : (name : List ℕ) (column : ColumnDef) (t : TableCells) (c : Change) → table_at name d ≡ Some t → add_column_at_width d name column ≡ Ok c → (new : Pool) (es : List Stored)
      → new ≡ c.database.pool → es ≡ tables_stored c.database c.stored
      → AreParts (with_change old c) new (with_table_kept (record { name = name; columns = t.columns ++ column ∷ []; long = pool.long }) (without_table_kept name tables)) (stored_in es streams)
  column_kept name column t c at e new es pool_is edit =
      let all : List ColumnDef = t.columns ++ column ∷ [] in
      let u : TableDef = record { name = name; columns = all; long = pool.long } in
      let others : List TableDef = without_table_kept name tables in
      let r = column_parts d name column c e in
      let same : r.table ≡ t = same_Some r.table t (sym r.at ∙ at) in
      let shown_c = shown_now taken_takes given_back_gives d name column c (regular old kept.kept known_sound).well r (describes old kept.kept known_sound) (kinds old kept.kept known_sound)
      ∙ ap (λ (v : TableCells). put list_cmp name (v.columns ++ column ∷ []) (steps.shown d)) same in
      change_made c (inr (column_added name column e)) (with_table_kept u others) new es pool_is
      (put_listed u others (none_left name tables) ∙ ap (put list_cmp name all) (without_listed name tables ∙ ap (without name) (sym shown_old))
      ∙ put_without name all (steps.shown d) (shown_in_order streams d kept.kept.spelled.schema) ∙ sym shown_c)
      (put_as_long u pool.long others refl (without_as_long name pool.long tables kept.as_long)) edit

-- THE SAME OF MAPS OF STREAMS

module _ (pool : Pool) (tables : List TableDef) (m : maps.Streams) (kept : AreKept pool tables (entries m) true) where
  abbrev was : Kept
  was = kept_of pool tables (entries m)

  stored_map : (k : Kept) (new : Pool) (after : List TableDef) (n : maps.Streams) (es : List Stored) → n ≡ stored_all m es → AreParts k new after (stored_in es (entries m)) → AreParts k new after (entries n)
  stored_map k new after n es is h = subst (λ (s : Streams). AreParts k new after s) (sym (ap entries is ∙ entries_stored m es)) h

  pub rows_finished : (c : Change) → IsChangeAtWidth was.database c → (name : List ℕ) (columns : List ColumnDef) (rows : List (List ValueRef)) (used : PoolInUse) → with_stored name columns rows used (no_change was.database) ≡ c
      → (new : Pool) (n : maps.Streams) (e : Stored) → new ≡ record pool { places = used.places } → e.name ≡ table_key name → e.bytes ≡ stream_of_rows pool.long columns rows → n ≡ stored_all m (e ∷ [])
      → AreParts (with_change was c) new tables (entries n)
  rows_finished c change name columns rows used is new n e pool_is name_is bytes_is stored =
      stored_map (with_change was c) new tables n (e ∷ []) stored (rows_made pool tables (entries m) kept c change name columns rows used is new e pool_is name_is bytes_is)
