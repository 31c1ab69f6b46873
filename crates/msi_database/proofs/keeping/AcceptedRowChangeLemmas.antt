-- An accepted insert, delete or update brings what a change must.
use Rattle.std.proofs.Common.{◌≡◌, ℕ, ◌≤◌, true, false, List, [], ◌∷◌, map, length, bytes_eq, Some, is_some, sym, ap, subst, ◌∙◌, arith, Ok}
use Rattle.std.specs.List.{list_any}
use Rattle.std.specs.FinMap.{find}
use Rattle.std.proofs.lemmas.Bool.{true≢false, false_from_ne_true, leb-true}
use Rattle.std.proofs.lemmas.Slice.Eq.{bytes_eq-Decides}
use Rattle.msi_base.specs.Lists.{list_cmp}
use Rattle.msi_pool.specs.Pool.{Place}
use Rattle.msi_pool.specs.FirstFit.{most_places}
use Rattle.msi_pool.proofs.TakenLemmas.{taken_takes}
use Rattle.msi_table_cells.specs.declared.cell.ValueRef.{ValueRef}
use Rattle.msi_table_values.specs.Columns.{types_of}
use Rattle.msi_table_cells.specs.Fitting.{FitsTable}
use Rattle.msi_table_cells.specs.CellValues.{row_values}
use Rattle.msi_table_cells.specs.StoredOrder.{in_stored_order}
use Rattle.msi_query.specs.Queries.{InsertQuery, UpdateQuery, DeleteQuery}
use Rattle.msi_table_cells.specs.TableCells.{TableCells}
use Rattle.msi_database_schema.specs.Keys.{is_table_name}
use Rattle.msi_database_schema.specs.System.{validation_name}
use Rattle.msi_database_schema.specs.Schema.{schema_of}
use Rattle.msi_database_schema.proofs.OrderlessLemmas.{HasKinds}
use Rattle.msi_database_schema.proofs.SchemaLemmas.{Described}
use Rattle.msi_database_schema.proofs.RowOrderLemmas.{names_total}
use Rattle.msi_database_changes.specs.Database.{Database, table_at, has_table, is_sound, rows_of}
use Rattle.msi_database_changes.specs.Changes.{Change, no_change, pool_of}
use Rattle.msi_database_changes.specs.Insert.{insert_at_width}
use Rattle.msi_database_changes.specs.Update.{update_at_width}
use Rattle.msi_database_changes.specs.Delete.{delete_rows, rows_meeting}
use Rattle.msi_database_changes.specs.Texts.{rows_released}
use Rattle.msi_database_changes.proofs.steps.AtWidthLemmas.{IsChangeAtWidth, inserted, updated, deleted}
use Rattle.msi_database_changes.proofs.steps.StoredLemmas.{Exchanged}
use Rattle.msi_database_changes.proofs.steps.ValuesLemmas.{rows_stay}
use Rattle.msi_database_changes.proofs.describing.ShownTablesLemmas.{shown}
use Rattle.msi_database_changes.proofs.describing.DescribingLemmas.{describing, has_shown}
use Rattle.msi_database_changes.proofs.soundness.LawLemmas.{changes_keep_soundness, changes_keep_form}
use Rattle.msi_database_changes.proofs.row_changes.InsertedLemmas.{Inserted, inserted_moved}
use Rattle.msi_database_changes.proofs.row_changes.InsertLemmas.{insert_parts}
use Rattle.msi_database_changes.proofs.row_changes.DeleteLemmas.{Deleted, delete_parts, stays, goes, apart}
use Rattle.msi_database_changes.proofs.row_changes.RemovedRowsLemmas.{removed_moved}
use Rattle.msi_database_changes.proofs.row_changes.UpdateLemmas.{Updated, update_parts, update_moved}
use Rattle.msi_database_changes.proofs.text_counts.PoolStepLemmas.{rows_released_step}
use Rattle.msi_database_changes.proofs.steps.TracksLemmas.{Tracks, TableFits, tracks_stored, fewer_fit}
use Rattle.msi_database_changes.proofs.table_changes.CreateTracksLemmas.{tracked_from, tracks_inserted}
use Rattle.msi_database_changes.proofs.soundness.RegularLemmas.{IsRegular}
use Rattle.msi_database_storage.proofs.MapLemmas as maps
use Rattle.msi_database_storage.proofs.StreamLemmas.{list_cmp_exact}
use Rattle.msi_database.proofs.soundness.GivenBackLemmas.{given_back_gives}
use Rattle.msi_database.proofs.soundness.SoundLemmas.{sound_is, sound_names}
use Rattle.msi_database.proofs.calls.RowChangeLemmas.{shown_same, still_describes}
use Rattle.msi_database_changes.proofs.row_changes.UpdateFitsLemmas.{rows_updated_step, rows_updated_fit}
use Rattle.msi_database_changes.proofs.soundness.FitsKeptLemmas.{set_fit, each_row}
use Rattle.msi_database.proofs.keeping.AcceptedChangeLemmas.{Comes}

pub missing_apart : (name other : List ℕ) (d : Database) (t : TableCells) → table_at name d ≡ Some t → has_table other d ≡ false → bytes_eq other name ≡ false
missing_apart name other d t found none = false_from_ne_true (bytes_eq other name) (λ same.
    let is : other ≡ name = (bytes_eq-Decides other name).0 same in
    true≢false (sym (ap (λ (n : List ℕ). has_table n d) is ∙ ap is_some found) ∙ none))

module _ (d : Database) (sound : is_sound d ≡ true) (regular : IsRegular d) (before : schema_of (describing d) ≡ Some (shown d)) (kinds : HasKinds (describing d)) where
  named : (name : List ℕ) (t : TableCells) → table_at name d ≡ Some t → is_table_name name ≡ true
  named name t found = maps.found_has names_total list_cmp_exact (λ e. is_table_name e.0 ≡ true) name t d.tables (sound_names d sound) found

  module _ (name : List ℕ) (t : TableCells) (found : table_at name d ≡ Some t) where
    -- the values of an unlisted `_Validation` stay
    texts_by : (rows : List (List ValueRef)) (places : List Place) → Exchanged d name t found regular.well.in_order rows places → map (row_values d.pool.places) d.unlisted_validation ≡ map (row_values places) d.unlisted_validation
    texts_by rows places moved = sym (rows_stay d.unlisted_validation d.pool.places places (λ n used. moved.texts n (omega (arith, used))))

    module _ (c : Change) (change : IsChangeAtWidth d c) (stored : c.stored ≡ name ∷ []) (same : c.database.unlisted_validation ≡ d.unlisted_validation)
        (texts : map (row_values d.pool.places) d.unlisted_validation ≡ map (row_values c.database.pool.places) d.unlisted_validation) where
      values : map (row_values d.pool.places) d.unlisted_validation ≡ map (row_values c.database.pool.places) c.database.unlisted_validation
      values = texts ∙ ap (map (row_values c.database.pool.places)) (sym same)

      shown_now : shown c.database ≡ shown d
      shown_now = shown_same taken_takes given_back_gives d c change regular.well before values

      unstored_now : has_table validation_name d ≡ false → list_any (bytes_eq validation_name) c.stored ≡ false
      unstored_now none =
          let other : bytes_eq validation_name name ≡ false = missing_apart name validation_name d t found none in
          let alone : list_any (bytes_eq validation_name) (name ∷ []) ≡ false = rw other in
          ap (list_any (bytes_eq validation_name)) stored ∙ alone

      comes_by : Tracks d c → Comes d c
      comes_by tracks = record {
        tracks = tracks;
        sound = changes_keep_soundness taken_takes given_back_gives d c change regular.well sound;
        well = changes_keep_form taken_takes given_back_gives d c change regular.well;
        schema = still_describes taken_takes given_back_gives d c change regular.well before values kinds;
        unlisted = same;
        listed = has_shown validation_name c.database ∙ ap (λ (ts : Described). is_some (find list_cmp validation_name ts)) shown_now ∙ sym (has_shown validation_name d);
        unstored = unstored_now;
      }

  module _ (q : InsertQuery) (c : Change) (e : insert_at_width d q ≡ Ok c) where
    insert_by : Inserted (no_change d) q.table q.rows c → Comes d c
    insert_by p = comes_by q.table p.table p.found c (inserted q e)
        (ap (λ (x : Change). x.stored) (sym p.stored)) (ap (λ (x : Change). x.database.unlisted_validation) (sym p.stored))
        (texts_by q.table p.table p.found _ p.put.1.places (inserted_moved taken_takes given_back_gives (no_change d) q.table q.rows c sound regular.well p)
        ∙ ap (λ (x : Change). map (row_values x.database.pool.places) d.unlisted_validation) p.stored)
        (tracks_inserted taken_takes given_back_gives d (no_change d) q.table q.rows c p (named q.table p.table p.found) sound (tracked_from d))

    pub insert_comes : Comes d c
    insert_comes = insert_by (insert_parts d q c e).1

  module _ (q : DeleteQuery) (c : Change) (e : delete_rows d q ≡ Ok c) where
    delete_by : Deleted d q c → Comes d c
    delete_by p =
        let left = stays taken_takes given_back_gives d q c regular.well p in
        let gone = goes taken_takes given_back_gives d q c regular.well p in
        comes_by q.table p.table p.found c (deleted q e)
        (ap (λ (x : Change). x.stored) (sym p.stored)) (ap (λ (x : Change). x.database.unlisted_validation) (sym p.stored))
        (texts_by q.table p.table p.found _ _ (removed_moved taken_takes given_back_gives (no_change d) q.table p.table p.found sound regular.well left gone (apart taken_takes given_back_gives d q c regular.well p))
        ∙ ap (λ (x : Change). map (row_values x.database.pool.places) d.unlisted_validation) p.stored)
        (subst (Tracks d) p.stored (tracks_stored d (no_change d) q.table p.table.columns (rows_meeting d.pool.places p.table q.condition false)
        (rows_released (pool_of (no_change d)) (rows_meeting d.pool.places p.table q.condition true)) (tracked_from d) (named q.table p.table p.found)
        (rows_released_step taken_takes given_back_gives (pool_of (no_change d)) (rows_meeting d.pool.places p.table q.condition true))
        (λ h. fewer_fit p.table.columns d.pool.long p.table.rows left (h q.table p.table p.found))))

    pub delete_comes : Comes d c
    delete_comes = delete_by (delete_parts d q c e)

  module _ (q : UpdateQuery) (c : Change) (e : update_at_width d q ≡ Ok c) where
    width : length d.pool.places ≤ most_places d.pool.long
    width = leb-true (length d.pool.places) (most_places d.pool.long) (sound_is d sound).fits

    updated_fit : (p : Updated d q c) → TableFits d.pool.long p.table → FitsTable d.pool.long (types_of p.table.columns) (in_stored_order p.table.columns p.rows.0)
    updated_fit p f =
        let set = rows_updated_fit taken_takes given_back_gives d.pool.long d.pool.places p.table.columns q (rows_of p.table) (pool_of (no_change d)) p.rows width
        (each_row p.table.columns d.pool.long p.table.rows f) p.valid p.rows_are in
        set_fit p.table.columns d.pool.long p.table.rows p.rows.0 f set.each set.count

    update_by : Updated d q c → Comes d c
    update_by p = comes_by q.table p.table p.found c (updated q e)
        (ap (λ (x : Change). x.stored) (sym p.stored)) (ap (λ (x : Change). x.database.unlisted_validation) (sym p.stored))
        (texts_by q.table p.table p.found _ p.rows.1.places (update_moved taken_takes given_back_gives d q c regular.well p)
        ∙ ap (λ (x : Change). map (row_values x.database.pool.places) d.unlisted_validation) p.stored)
        (subst (Tracks d) p.stored (tracks_stored d (no_change d) q.table p.table.columns p.rows.0 p.rows.1 (tracked_from d) (named q.table p.table p.found)
        (rows_updated_step taken_takes given_back_gives d.pool.long d.pool.places p.table.columns q (pool_of (no_change d)) (rows_of p.table) p.rows p.rows_are)
        (λ h. updated_fit p (h q.table p.table p.found))))

    pub update_comes : Comes d c
    update_comes = update_by (update_parts d q c e)

  -- so does each change of rows
  pub rows_come : (c : Change) → IsChangeAtWidth d c → Comes d c
  rows_come c (inserted q e) = insert_comes q c e
  rows_come c (updated q e) = update_comes q c e
  rows_come c (deleted q e) = delete_comes q c e
