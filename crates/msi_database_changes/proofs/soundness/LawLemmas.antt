-- The laws of changes, of a database that is sound and well formed.
--     `takes` and `gives` are what `taken_places_hold_their_text` and `given_back_takes_one` of msi_pool ensure
use Rattle.std.proofs.Common.{◌≡◌, ℕ, List, Bool, true, false, not, T, ◌&&◌, ◌++◌, filter, Some, Ok, IsPermutation, refl, sym, ◌∙◌, subst}
use Rattle.std.specs.FinMap.{is_sorted}
use Rattle.std.specs.List.{list_all}
use Rattle.std.proofs.lemmas.Option.{same_Some}
use Rattle.msi_pool.specs.FirstFitLaws.{TakenPlacesHoldTheirText, GivenBackTakesOne}
use Rattle.msi_base.specs.Lists.{list_cmp}
use Rattle.msi_query.specs.Queries.{InsertQuery, UpdateQuery, DeleteQuery}
use Rattle.msi_query_expressions.specs.Conditions.{meets}
use Rattle.msi_database_changes.specs.Database.{Database, table_at, is_sound, is_well_formed, CountsAreExact}
use Rattle.msi_table_cells.specs.TableCells.{TableCells}
use Rattle.msi_database_changes.specs.Changes.{Change, no_change}
use Rattle.msi_database_changes.specs.Insert.{insert_at_width, whole_insert}
use Rattle.msi_database_changes.specs.Update.{update_at_width, values_after}
use Rattle.msi_database_changes.specs.Delete.{delete_rows}
use Rattle.msi_database_changes.specs.Create.{create_at_width}
use Rattle.msi_database_changes.specs.Drop.{drop_table}
use Rattle.msi_database_changes.specs.AddColumn.{add_column_at_width}
use Rattle.msi_database_changes.specs.Laws.{AddedColumnsAreNull, rows_at, OthersStay, KeysAreDistinct, Keeps, InsertAddsItsRows, UpdateSetsItsRows, DeleteRemovesItsRows, ChangesKeep, TableChangesKeep, CountsTellTexts, RowsFit}
use Rattle.msi_database_changes.specs.Widening.{widened}
use Rattle.msi_database_changes.proofs.steps.AtWidthLemmas.{IsTableChangeAtWidth, change_at, fits_widened, sound_widened, table_change_at, whole_inserted, widening_made, IsChangeAtWidth, inserted, updated, deleted, created, dropped, column_added}
use Rattle.msi_table_values.specs.Columns.{ColumnDef}
use Rattle.msi_database_changes.proofs.row_keys.KeysLemmas.{inserted_distinct}
use Rattle.msi_database_changes.proofs.row_keys.KeysKeptLemmas.{delete_distinct, update_distinct}
use Rattle.msi_database_changes.proofs.table_changes.CreateLemmas.{create_keeps}
use Rattle.msi_database_changes.proofs.table_changes.DropLemmas.{drop_keeps}
use Rattle.msi_database_changes.proofs.table_changes.DropLemmas as steps
use Rattle.msi_database_changes.proofs.row_keys.TableKeysLemmas.{create_distinct, drop_distinct}
use Rattle.msi_database_changes.proofs.table_changes.ColumnAddedLemmas.{column_distinct, column_keeps, column_nulls, column_others, column_parts}
use Rattle.msi_database_changes.proofs.text_counts.TextCountLemmas.{counts_of_text}
use Rattle.msi_database_changes.proofs.soundness.FitsKeptLemmas.{change_fits, column_fits, create_fits, drop_fits}
use Rattle.msi_database_changes.proofs.soundness.SoundLemmas.{names_are_numbers}
use Rattle.msi_database_changes.proofs.steps.StoredLemmas.{WellFormed, table_is_full}
use Rattle.msi_database_changes.proofs.row_changes.InsertLemmas.{insert_parts, insert_sound, insert_well, insert_exact, insert_adds}
use Rattle.msi_database_changes.proofs.row_changes.UpdateLemmas.{update_parts, update_sound, update_well, update_exact, update_sets}
use Rattle.msi_database_changes.proofs.row_changes.DeleteLemmas.{delete_parts, delete_sound, delete_well, delete_exact, delete_removes}

three : (a b c : Bool) → (a && b && c) ≡ true → (a ≡ true) × (T b) × (c ≡ true)
three true true c h = (refl, tt, h)
three true false c h = cc
three false b c h = cc

true_from : (b : Bool) → T b → b ≡ true
true_from true h = refl
true_from false h = absurd h

pub well_formed_from : (d : Database) → is_well_formed d ≡ true → WellFormed d
well_formed_from d h =
    let p = three (names_are_numbers d) (is_sorted list_cmp d.tables) (list_all table_is_full d.tables) h in
    record { numbers = p.0; in_order = p.1; full = p.2 }

pub well_formed_to : (d : Database) → WellFormed d → is_well_formed d ≡ true
well_formed_to d w = rw (w.numbers, true_from (is_sorted list_cmp d.tables) w.in_order, w.full)

module _ (takes : TakenPlacesHoldTheirText) (gives : GivenBackTakesOne) where
  -- a change leaves a sound database, which is well formed too
  pub changes_keep_soundness : (d : Database) (c : Change) → IsChangeAtWidth d c → WellFormed d → is_sound d ≡ true → is_sound c.database ≡ true
  changes_keep_soundness d c (inserted q e) well sound = insert_sound takes gives d q c well e
  changes_keep_soundness d c (updated q e) well sound = update_sound takes gives d q c well (update_parts d q c e)
  changes_keep_soundness d c (deleted q e) well sound = delete_sound takes gives d q c well (delete_parts d q c e)

  pub changes_keep_form : (d : Database) (c : Change) → IsChangeAtWidth d c → WellFormed d → WellFormed c.database
  changes_keep_form d c (inserted q e) well = insert_well takes gives d q c well e
  changes_keep_form d c (updated q e) well = update_well takes gives d q c well (update_parts d q c e)
  changes_keep_form d c (deleted q e) well = delete_well takes gives d q c well (delete_parts d q c e)

  -- and exact counts exact
  pub changes_keep_counts : (d : Database) (c : Change) → IsChangeAtWidth d c → WellFormed d → is_sound d ≡ true → CountsAreExact d → CountsAreExact c.database
  changes_keep_counts d c (inserted q e) well sound exact = insert_exact takes gives d q c well e exact
  changes_keep_counts d c (updated q e) well sound exact = update_exact takes gives d q c well (update_parts d q c e) exact
  changes_keep_counts d c (deleted q e) well sound exact = delete_exact takes gives d q c well (delete_parts d q c e) exact

  -- and no two rows share a key, if none did
  pub changes_keep_keys : (d : Database) (c : Change) → IsChangeAtWidth d c → WellFormed d → KeysAreDistinct d → KeysAreDistinct c.database
  changes_keep_keys d c (inserted q e) well distinct = let p = insert_parts d q c e in inserted_distinct takes gives (no_change d) q.table q.rows c p.0 well p.1 distinct
  changes_keep_keys d c (updated q e) well distinct = update_distinct takes gives d q c well (update_parts d q c e) distinct
  changes_keep_keys d c (deleted q e) well distinct = delete_distinct takes gives d q c well (delete_parts d q c e) distinct

  -- the same of a table that is created and of one that is dropped
  pub create_table_keeps : (d : Database) (name : List ℕ) (columns : List ColumnDef) (c : Change) → WellFormed d → create_at_width d name columns ≡ Ok c → steps.Keeps d c.database
  create_table_keeps = create_keeps takes gives

  pub drop_table_keeps : (d : Database) (name : List ℕ) (c : Change) → WellFormed d → drop_table d name ≡ Ok c → steps.Keeps d c.database
  drop_table_keeps = drop_keeps takes gives

  pub add_column_keeps : (d : Database) (name : List ℕ) (column : ColumnDef) (c : Change) → WellFormed d → add_column_at_width d name column ≡ Ok c → steps.Keeps d c.database
  add_column_keeps d name column c well e = column_keeps takes gives d name column c well (column_parts d name column c e)

  -- an accepted insert adds exactly its rows
  pub insert_adds_its_rows : (d : Database) (q : InsertQuery) (c : Change) → WellFormed d → insert_at_width d q ≡ Ok c
      → IsPermutation (rows_at q.table d ++ q.rows) (rows_at q.table c.database) × OthersStay q.table d c.database
  insert_adds_its_rows d q c well e = insert_adds takes gives d q c well e

  -- an accepted update sets its columns in exactly the rows whose condition counts as true
  pub update_sets_its_rows : (d : Database) (q : UpdateQuery) (c : Change) (t : TableCells) → WellFormed d → table_at q.table d ≡ Some t → update_at_width d q ≡ Ok c
      → IsPermutation (values_after t q (rows_at q.table d)) (rows_at q.table c.database) × OthersStay q.table d c.database
  update_sets_its_rows d q c t well found e =
      let s = update_parts d q c e in
      subst (λ t. IsPermutation (values_after t q (rows_at q.table d)) (rows_at q.table c.database) × OthersStay q.table d c.database)
      (same_Some s.table t (sym s.found ∙ found)) (update_sets takes gives d q c well s)

  -- an accepted delete removes exactly the rows whose condition counts as true
  pub delete_removes_its_rows : (d : Database) (q : DeleteQuery) (c : Change) (t : TableCells) → WellFormed d → table_at q.table d ≡ Some t → delete_rows d q ≡ Ok c
      → IsPermutation (filter (λ row. not (meets t.columns q.condition row)) (rows_at q.table d)) (rows_at q.table c.database) × OthersStay q.table d c.database
  delete_removes_its_rows d q c t well found e =
      let s = delete_parts d q c e in
      subst (λ t. IsPermutation (filter (λ row. not (meets t.columns q.condition row)) (rows_at q.table d)) (rows_at q.table c.database) × OthersStay q.table d c.database)
      (same_Some s.table t (sym s.found ∙ found)) (delete_removes takes gives d q c well s)

  -- the same as they are told
  pub inserts_add : InsertAddsItsRows
  inserts_add d q c well e =
      let w = whole_insert d q in
      widening_made (λ d. insert_at_width d w) d c (whole_inserted d q c e).1
      (λ sound short is. insert_adds_its_rows (widened d) w c (well_formed_from (widened d) well) is)
      (λ is. insert_adds_its_rows d w c (well_formed_from d well) is)

  pub updates_set : UpdateSetsItsRows
  updates_set d q c t well found e = widening_made (λ d. update_at_width d q) d c e
      (λ sound short is. update_sets_its_rows (widened d) q c t (well_formed_from (widened d) well) found is)
      (λ is. update_sets_its_rows d q c t (well_formed_from d well) found is)

  pub deletes_remove : DeleteRemovesItsRows
  deletes_remove d q c t well found e = delete_removes_its_rows d q c t (well_formed_from d well) found e

  changes_keep_at : (d : Database) (c : Change) → IsChangeAtWidth d c → is_well_formed d ≡ true → is_sound d ≡ true → Keeps d c.database
  changes_keep_at d c change formed sound =
      let well = well_formed_from d formed in record {
        formed = well_formed_to c.database (changes_keep_form d c change well);
        sound = changes_keep_soundness d c change well sound;
        fits = change_fits takes gives d c change sound;
        counts = changes_keep_counts d c change well sound;
        keys = changes_keep_keys d c change well;
      }

  keeps_widened : (d new : Database) → Keeps (widened d) new → Keeps d new
  keeps_widened d new k = record { formed = k.formed; sound = k.sound; fits = λ fit. k.fits (fits_widened d fit); counts = k.counts; keys = k.keys }

  pub changes_keep : ChangesKeep
  changes_keep d c change formed sound = change_at d c change
      (λ s short wide. keeps_widened d c.database (changes_keep_at (widened d) c wide formed (sound_widened d sound)))
      (λ same. changes_keep_at d c same formed sound)

  keeps_by : (d : Database) (c : Change) → steps.Keeps d c.database → (RowsFit d → RowsFit c.database) → (KeysAreDistinct d → KeysAreDistinct c.database) → Keeps d c.database
  keeps_by d c kept fits keys = record { formed = well_formed_to c.database kept.well; sound = kept.sound; fits = fits; counts = kept.exact; keys = keys }

  table_changes_keep_at : (d : Database) (c : Change) → IsTableChangeAtWidth d c → is_well_formed d ≡ true → is_sound d ≡ true → Keeps d c.database
  table_changes_keep_at d c (created name columns e) formed sound =
      let well = well_formed_from d formed in keeps_by d c (create_table_keeps d name columns c well e) (create_fits takes gives d name columns c well e) (create_distinct takes gives d name columns c well e)
  table_changes_keep_at d c (dropped name e) formed sound =
      let well = well_formed_from d formed in keeps_by d c (drop_table_keeps d name c well e) (drop_fits takes gives d name c well e) (drop_distinct takes gives d name c well e)
  table_changes_keep_at d c (column_added name column e) formed sound =
      let well = well_formed_from d formed in
      keeps_by d c (add_column_keeps d name column c well e) (column_fits takes gives d name column c well e) (column_distinct takes gives d name column c well (column_parts d name column c e))

  pub table_changes_keep : TableChangesKeep
  table_changes_keep d c change formed sound = table_change_at d c change
      (λ s short wide. keeps_widened d c.database (table_changes_keep_at (widened d) c wide formed (sound_widened d sound)))
      (λ same. table_changes_keep_at d c same formed sound)

  -- an added column is null
  pub added_null : AddedColumnsAreNull
  added_null d name column c well e = widening_made (λ d. add_column_at_width d name column) d c e
      (λ sound short is. let p = column_parts (widened d) name column c is in let w = well_formed_from (widened d) well in
      (column_nulls takes gives (widened d) name column c w p, column_others takes gives (widened d) name column c w p))
      (λ is. let p = column_parts d name column c is in let w = well_formed_from d well in
      (column_nulls takes gives d name column c w p, column_others takes gives d name column c w p))

pub counts_tell : CountsTellTexts
counts_tell d text formed sound exact = counts_of_text d text sound (well_formed_from d formed) exact
