-- Rows that fit their columns fit after an accepted change, too.
use Rattle.std.proofs.Common.{◌≡◌, ℕ, ◌≤◌, Bool, true, false, cond, List, [], ◌++◌, length, Option, Some, None, Ok, refl, sym, ap, ◌∙◌, subst, arith, ⊎_elim}
use Rattle.std.specs.Prelude.{IsSomeAnd, unwrap_or}
use Rattle.std.specs.List.{AllByRecursion}
use Rattle.std.specs.Ordering.{eq_by_cmp}
use Rattle.std.specs.Cmp.Lexicographic.{nat_list_cmp_total}
use Rattle.std.specs.FinMap.Entries.{find-put}
use Rattle.std.proofs.lemmas.Bool.{cases_Bool}
use Rattle.std.proofs.lemmas.Bool.Decides.{nat_tests}
use Rattle.std.proofs.lemmas.Option.{same_Some}
use Rattle.msi_pool.specs.FirstFit.{most_places}
use Rattle.msi_pool.specs.FirstFitLaws.{TakenPlacesHoldTheirText, GivenBackTakesOne}
use Rattle.msi_base.specs.Lists.{list_cmp}
use Rattle.msi_table_cells.specs.declared.cell.ValueRef.{ValueRef}
use Rattle.msi_table_values.specs.Columns.{ColumnDef, types_of}
use Rattle.msi_table_cells.specs.Fitting.{FitsRow, FitsTable}
use Rattle.msi_table_cells.specs.StoredOrder.{in_stored_order}
use Rattle.msi_table_cells.specs.CellValues.{row_values}
use Rattle.msi_table_cells.proofs.SortedFitsLemmas.{sorted_fits}
use Rattle.msi_table_cells.specs.TableCells.{TableCells}
use Rattle.msi_database_schema.specs.Keys.{is_table_name}
use Rattle.msi_database_schema.specs.System.{columns_name, tables_name, validation_columns, validation_name}
use Rattle.std.specs.Str.{chars}
use Rattle.msi_database_changes.specs.Database.{Database, table_at, rows_of, same_bool, is_sound}
use Rattle.msi_query_expressions.specs.Conditions.{meets}
use Rattle.msi_database_changes.specs.Changes.{Change, no_change, pool_of, with_stored}
use Rattle.msi_database_changes.specs.Texts.{PoolInUse, rows_released}
use Rattle.msi_database_changes.specs.Create.{create_at_width}
use Rattle.msi_database_changes.specs.Delete.{rows_meeting}
use Rattle.msi_database_changes.specs.Drop.{drop_table}
use Rattle.msi_database_changes.specs.AddColumn.{add_column_at_width}
use Rattle.msi_table_cells.specs.KeyOrder.{in_key_order}
use Rattle.msi_database_changes.specs.Laws.{RowsFit, TableFits}
use Rattle.msi_database_changes.proofs.steps.AtWidthLemmas.{IsChangeAtWidth, inserted, updated, deleted}
use Rattle.msi_database_changes.proofs.steps.StoredLemmas.{WellFormed, sound_parts}
use Rattle.msi_database_changes.proofs.steps.UntouchedTableLemmas.{LeavesUnlisted}
use Rattle.msi_database_changes.proofs.steps.TracksLemmas.{Tracks, fewer_fit}
use Rattle.msi_database_changes.proofs.soundness.PutFitsLemmas.{Both, CellOf, as_many, joined_fit, rows_all_fit, rows_put_of}
use Rattle.msi_database_changes.proofs.row_changes.UpdateFitsLemmas.{rows_updated_fit}
use Rattle.msi_database_changes.proofs.row_changes.InsertedLemmas.{rows_fit}
use Rattle.msi_database_changes.proofs.row_changes.InsertLemmas.{insert_parts}
use Rattle.msi_database_changes.proofs.row_changes.UpdateLemmas.{update_parts}
use Rattle.msi_database_changes.proofs.row_changes.DeleteLemmas.{delete_parts}
use Rattle.msi_database_changes.proofs.table_changes.CreateRowsLemmas.{create_unlisted}
use Rattle.msi_database_changes.proofs.table_changes.DropRowsLemmas.{drop_rows}
use Rattle.msi_database_changes.proofs.table_changes.CreateTracksLemmas.{create_tracks, few_rows}
use Rattle.msi_database_changes.proofs.table_changes.DropTracksLemmas.{drop_tracks}
use Rattle.msi_database_changes.proofs.table_changes.ColumnAddedLemmas.{column_parts, column_tracks, column_unlisted}
use Rattle.msi_database_changes.proofs.describing.ShownTablesLemmas.{created}
use Rattle.msi_database_changes.proofs.describing.ShownChangesLemmas.{dropped_parts}

-- a table that was stored anew
module _ (d : Database) (name : List ℕ) (columns : List ColumnDef) (rows : List (List ValueRef)) (pool : PoolInUse) (fit : RowsFit d) (new : FitsTable d.pool.long (types_of columns) (in_stored_order columns rows)) where
  abbrev now : Database
  now = (with_stored name columns rows pool (no_change d)).database

  abbrev table : TableCells
  table = record { columns = columns; rows = Some (in_stored_order columns rows) }

  found : (other : List ℕ) → table_at other now ≡ cond (eq_by_cmp list_cmp other name) (Some table) (table_at other d)
  found other = find-put list_cmp nat_list_cmp_total other name table d.tables

  each_fits : (other : List ℕ) (t : TableCells) → table_at other now ≡ Some t → TableFits now t
  each_fits other t is = ⊎_elim
      (λ (same : eq_by_cmp list_cmp other name ≡ true).
      subst (λ (t : TableCells). TableFits now t) (same_Some table t (ap (λ b. cond b (Some table) (table_at other d)) (sym same) ∙ sym (found other) ∙ is)) new)
      (λ (apart : eq_by_cmp list_cmp other name ≡ false). fit.tables other t (ap (λ b. cond b (Some table) (table_at other d)) (sym apart) ∙ sym (found other) ∙ is))
      (cases_Bool (eq_by_cmp list_cmp other name))

  stored_fit : RowsFit now
  stored_fit = record { tables = each_fits; unlisted = fit.unlisted }

-- rows that were set
pub set_fit : (columns : List ColumnDef) (long : Bool) (o : Option (List (List ValueRef))) (set : List (List ValueRef)) → IsSomeAnd o (FitsTable long (types_of columns))
    → AllByRecursion (FitsRow long (types_of columns)) set → length set ≡ length (unwrap_or o []) → FitsTable long (types_of columns) (in_stored_order columns set)
set_fit columns long None set f each same = absurd f
set_fit columns long (Some rows) set f each same =
    sorted_fits columns long (types_of columns) set (record { some_column = f.some_column; few_rows = omega (arith, same, f.few_rows); each_row = each })

pub each_row : (columns : List ColumnDef) (long : Bool) (o : Option (List (List ValueRef))) → IsSomeAnd o (FitsTable long (types_of columns)) → AllByRecursion (FitsRow long (types_of columns)) (unwrap_or o [])
each_row columns long None f = absurd f
each_row columns long (Some rows) f = f.each_row

width_of : (d : Database) → is_sound d ≡ true → length d.pool.places ≤ most_places d.pool.long
width_of d sound = let w = (sound_parts d sound).width in grind (arith, nat_tests, w)

-- the names of the system tables are names of tables
tables_named : is_table_name tables_name ≡ true
unfolding Rattle.std.specs.Str.chars
tables_named = refl

columns_named : is_table_name columns_name ≡ true
unfolding Rattle.std.specs.Str.chars
columns_named = refl

validation_named : is_table_name validation_name ≡ true
unfolding Rattle.std.specs.Str.chars
validation_named = refl

module _ (takes : TakenPlacesHoldTheirText) (gives : GivenBackTakesOne) where
  pub change_fits : (d : Database) (c : Change) → IsChangeAtWidth d c → is_sound d ≡ true → RowsFit d → RowsFit c.database
  change_fits d c (inserted q e) sound fit =
      let s = (insert_parts d q c e).1 in
      let columns = s.table.columns in
      let of : Both (Both (CellOf d.pool.long)) q.rows s.put.0 = rows_put_of takes d.pool.long (pool_of (no_change d)) q.rows s.put (width_of d sound) s.put_is in
      subst (λ (c : Change). RowsFit c.database) s.stored
      (stored_fit d q.table columns (in_key_order columns s.put.1.places (rows_of s.table ++ s.put.0)) s.put.1 fit
      (joined_fit columns d.pool.long s.put.1.places s.table.rows s.put.0 (fit.tables q.table s.table s.found)
      (let n = as_many (Both (CellOf d.pool.long)) q.rows s.put.0 of in let few = few_rows d q.rows s.table s.passed in omega (arith, n, few))
      (rows_all_fit d.pool.long columns q.rows s.put.0 (rows_fit d q.rows s.table s.passed) of)))
  change_fits d c (updated q e) sound fit =
      let s = update_parts d q c e in
      let columns = s.table.columns in
      let there = fit.tables q.table s.table s.found in
      let set = rows_updated_fit takes gives d.pool.long d.pool.places columns q (rows_of s.table) (pool_of (no_change d)) s.rows (width_of d sound) (each_row columns d.pool.long s.table.rows there) s.valid s.rows_are in
      subst (λ (c : Change). RowsFit c.database) s.stored
      (stored_fit d q.table columns s.rows.0 s.rows.1 fit (set_fit columns d.pool.long s.table.rows s.rows.0 there set.each set.count))
  change_fits d c (deleted q e) sound fit =
      let s = delete_parts d q c e in
      let columns = s.table.columns in
      subst (λ (c : Change). RowsFit c.database) s.stored
      (stored_fit d q.table columns (rows_meeting d.pool.places s.table q.condition false) (rows_released (pool_of (no_change d)) (rows_meeting d.pool.places s.table q.condition true)) fit
      (fewer_fit columns d.pool.long s.table.rows (λ row. same_bool (meets columns q.condition (row_values d.pool.places row)) false) (fit.tables q.table s.table s.found)))

  -- where a change tracks the rows of tables, and leaves those of a `_Validation` that is no table
  tracked_fits : (d : Database) (c : Change) → Tracks d c → LeavesUnlisted d c.database → RowsFit d → RowsFit c.database
  tracked_fits d c tracks leaves fit = record {
    tables = tracks.fits fit.tables;
    unlisted = subst (λ (rows : List (List ValueRef)). AllByRecursion (FitsRow c.database.pool.long (types_of validation_columns)) rows) (sym leaves.same)
        (subst (λ (long : Bool). AllByRecursion (FitsRow long (types_of validation_columns)) d.unlisted_validation) (sym tracks.long) fit.unlisted);
  }

  pub create_fits : (d : Database) (name : List ℕ) (columns : List ColumnDef) (c : Change) → WellFormed d → create_at_width d name columns ≡ Ok c → RowsFit d → RowsFit c.database
  create_fits d name columns c well e =
      let p = created d name columns c e in
      tracked_fits d c (create_tracks takes gives d name columns c well p columns_named tables_named validation_named) (create_unlisted takes gives d name columns c well p)

  pub drop_fits : (d : Database) (name : List ℕ) (c : Change) → WellFormed d → drop_table d name ≡ Ok c → RowsFit d → RowsFit c.database
  drop_fits d name c well e =
      let p = dropped_parts d name c e in
      tracked_fits d c (drop_tracks takes gives d name c well p validation_named columns_named tables_named) (drop_rows takes gives d name c well p).unlisted

  pub column_fits : (d : Database) (name : List ℕ) (column : ColumnDef) (c : Change) → WellFormed d → add_column_at_width d name column ≡ Ok c → RowsFit d → RowsFit c.database
  column_fits d name column c well e =
      let p = column_parts d name column c e in
      tracked_fits d c (column_tracks takes gives d name column c well p columns_named validation_named) (column_unlisted takes gives d name column c well p)
