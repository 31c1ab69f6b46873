-- Keys stay distinct through a delete and an update.
use Rattle.std.proofs.Common.{◌≡◌, ℕ, zero, suc, Bool, true, false, not, List, [], ◌∷◌, map, filter, set, Option, Some, None, option_and_then, unwrap_or, slice_get, refl, sym, ap, ◌∙◌, subst, ⊎_elim}
use Rattle.std.specs.List.{list_all}
use Rattle.std.specs.Option.{option_map_or}
use Rattle.std.proofs.lemmas.Bool.{cases_Bool, or_parts, and_parts}
use Rattle.std.proofs.lemmas.Option.{none-some, same_Some}
use Rattle.msi_pool.specs.FirstFitLaws.{TakenPlacesHoldTheirText, GivenBackTakesOne}
use Rattle.msi_base.specs.Lists.{has_pair}
use Rattle.msi_table_values.specs.declared.value.Value.{Value}
use Rattle.msi_table_cells.specs.declared.cell.ValueRef.{ValueRef}
use Rattle.msi_table_values.specs.Columns.{ColumnDef, column_index, column_named}
use Rattle.msi_table_values.specs.ValidValues.{is_valid_value}
use Rattle.msi_table_cells.specs.StoredOrder.{row_cmp, parts_where, in_stored_order}
use Rattle.msi_table_cells.proofs.RowOrderLemmas.{is_key}
use Rattle.msi_query.specs.Queries.{UpdateQuery, DeleteQuery}
use Rattle.msi_query_expressions.specs.Conditions.{meets}
use Rattle.msi_table_cells.specs.KeyOrder.{key_of, same_key}
use Rattle.msi_database_changes.specs.Database.{Database, table_at, rows_of, is_sound}
use Rattle.msi_table_cells.specs.TableCells.{TableCells}
use Rattle.msi_database_changes.specs.Changes.{Change, no_change, pool_of}
use Rattle.msi_database_changes.specs.Texts.{PoolInUse, rows_released}
use Rattle.msi_database_changes.specs.Setting.{index_of, values_set}
use Rattle.msi_database_changes.specs.Update.{set_is_valid, sets_key, values_after}
use Rattle.msi_database_changes.specs.Laws.{rows_at, KeysAreDistinct}
use Rattle.msi_database_changes.proofs.steps.StoredLemmas.{WellFormed, stored_in}
use Rattle.msi_database_changes.proofs.steps.ValuesLemmas.{rows_before}
use Rattle.msi_database_changes.proofs.row_keys.DistinctLemmas.{keys, keys_sorted, keys_kept, distinct_after}
use Rattle.msi_database_changes.proofs.row_changes.RemovedRowsLemmas.{removed_moved, kept_values}
use Rattle.msi_database_changes.proofs.row_changes.DeleteLemmas.{Deleted, stays, goes, apart}
use Rattle.msi_database_changes.proofs.row_changes.UpdatedLemmas.{values_updated}
use Rattle.msi_database_changes.proofs.row_changes.UpdateLemmas.{Updated, values_now, update_moved}

module _ (takes : TakenPlacesHoldTheirText) (gives : GivenBackTakesOne) (b : Change) (name : List ℕ) (t : TableCells) (found : table_at name b.database ≡ Some t) (sound : is_sound b.database ≡ true) (well : WellFormed b.database)
    (stays goes : List ValueRef → Bool) (apart : (row : List ValueRef) → goes row ≡ not (stays row)) (before : KeysAreDistinct b.database) where
  abbrev kept : List (List ValueRef)
  kept = filter stays (rows_of t)

  abbrev pool_now : PoolInUse
  pool_now = rows_released (pool_of b) (filter goes (rows_of t))

  distinct_then : has_pair same_key (keys t.columns b.database.pool.places (rows_of t)) ≡ false
  distinct_then = ap (λ rs. has_pair same_key (map (key_of t.columns) rs)) (sym (rows_before b.database name t found well.in_order)) ∙ before name t found

  distinct_kept : has_pair same_key (keys t.columns pool_now.places kept) ≡ false
  distinct_kept = ap (λ rs. has_pair same_key (map (key_of t.columns) rs)) (kept_values takes gives b name t found sound well stays goes apart)
      ∙ keys_kept t.columns b.database.pool.places stays (rows_of t) distinct_then

  pub removed_distinct : KeysAreDistinct (stored_in b.database name t (in_stored_order t.columns kept) pool_now.places)
  removed_distinct = distinct_after b.database name t found well.in_order (in_stored_order t.columns kept) pool_now.places
      (removed_moved takes gives b name t found sound well stays goes apart).texts before (keys_sorted (row_cmp t.columns) t.columns pool_now.places kept ∙ distinct_kept)

pub delete_distinct : (takes : TakenPlacesHoldTheirText) (gives : GivenBackTakesOne) (d : Database) (q : DeleteQuery) (c : Change) → WellFormed d → Deleted d q c → KeysAreDistinct d → KeysAreDistinct c.database
delete_distinct takes gives d q c well s before = subst (λ (c : Change). KeysAreDistinct c.database) s.stored
    (removed_distinct takes gives (no_change d) q.table s.table s.found s.sound well (stays takes gives d q c well s) (goes takes gives d q c well s) (apart takes gives d q c well s) before)

-- a value that is set beside the key leaves the key
beside_key : (test : ColumnDef → Bool) (columns : List ColumnDef) (row : List Value) (i : ℕ) (v : Value) (c : ColumnDef) → slice_get columns i ≡ Some c → test c ≡ false → parts_where test columns (set row i v) ≡ parts_where test columns row
beside_key test [] row i v c is h = absurd (none-some c is)
beside_key test (x ∷ columns) [] i v c is h = refl
beside_key test (x ∷ columns) (y ∷ row) zero v c is h = let off : test x ≡ false = ap test (same_Some x c is) ∙ h in rw off
beside_key test (x ∷ columns) (y ∷ row) (suc i) v c is h = rw (beside_key test columns row i v c is h)

set_beside : (columns : List ColumnDef) (row : List Value) (v : Value) (o : Option ℕ) → option_map_or (λ c. is_valid_value c v) (option_and_then (slice_get columns) o) false ≡ true
    → option_map_or is_key (option_and_then (slice_get columns) o) false ≡ false → key_of columns (set row (unwrap_or o 0) v) ≡ key_of columns row
set_beside columns row v None valid off = cc
set_beside columns row v (Some i) valid off = at_column (slice_get columns i) refl valid off where
  at_column : (o : Option ColumnDef) → slice_get columns i ≡ o → option_map_or (λ c. is_valid_value c v) o false ≡ true → option_map_or is_key o false ≡ false → key_of columns (set row i v) ≡ key_of columns row
  at_column None is valid off = cc
  at_column (Some c) is valid off = beside_key is_key columns row i v c is off

key_set : (columns : List ColumnDef) (sets : List (List ℕ × Value)) (row : List Value) → list_all (set_is_valid columns) sets ≡ true → sets_key columns sets ≡ false → key_of columns (values_set columns sets row) ≡ key_of columns row
key_set columns [] row valid off = refl
key_set columns (s ∷ ss) row valid off =
    let v = and_parts (set_is_valid columns s) (list_all (set_is_valid columns) ss) valid in
    let o = or_parts (option_map_or is_key (column_named s.0 columns) false) (sets_key columns ss) off in
    key_set columns ss (set row (index_of columns s) s.1) v.1 o.1 ∙ set_beside columns row s.1 (column_index s.0 columns) v.0 o.0

key_updated : (columns : List ColumnDef) (q : UpdateQuery) (row : List Value) → list_all (set_is_valid columns) q.sets ≡ true → sets_key columns q.sets ≡ false → key_of columns (values_updated columns q row) ≡ key_of columns row
key_updated columns q row valid off = ⊎_elim
    (λ (t : meets columns q.condition row ≡ true). rw t (key_set columns q.sets row valid off))
    (λ (t : meets columns q.condition row ≡ false). rw t)
    (cases_Bool (meets columns q.condition row))

keys_updated : (columns : List ColumnDef) (q : UpdateQuery) (rows : List (List Value)) → list_all (set_is_valid columns) q.sets ≡ true → sets_key columns q.sets ≡ false
    → map (key_of columns) (map (values_updated columns q) rows) ≡ map (key_of columns) rows
keys_updated columns q [] valid off = refl
keys_updated columns q (row ∷ rows) valid off = rw (key_updated columns q row valid off, keys_updated columns q rows valid off)

module _ (takes : TakenPlacesHoldTheirText) (gives : GivenBackTakesOne) (d : Database) (q : UpdateQuery) (c : Change) (well : WellFormed d) (s : Updated d q c) (before : KeysAreDistinct d) where
  -- tested where a key is set, and else as before
  distinct_set : has_pair same_key (map (key_of s.table.columns) (values_after s.table q (rows_at q.table d))) ≡ false
  distinct_set = ⊎_elim
      (λ (t : sets_key s.table.columns q.sets ≡ true).
      ap (λ rs. has_pair same_key (map (key_of s.table.columns) (values_after s.table q rs))) (rows_before d q.table s.table s.found well.in_order)
      ∙ (rw t at s.keys))
      (λ (t : sets_key s.table.columns q.sets ≡ false). ap (has_pair same_key) (keys_updated s.table.columns q (rows_at q.table d) s.valid t) ∙ before q.table s.table s.found)
      (cases_Bool (sets_key s.table.columns q.sets))

  pub update_distinct : KeysAreDistinct c.database
  update_distinct = subst (λ (c : Change). KeysAreDistinct c.database) s.stored
      (distinct_after d q.table s.table s.found well.in_order (in_stored_order s.table.columns s.rows.0) s.rows.1.places (update_moved takes gives d q c well s).texts before
      (keys_sorted (row_cmp s.table.columns) s.table.columns s.rows.1.places s.rows.0
      ∙ ap (λ rs. has_pair same_key (map (key_of s.table.columns) rs)) (values_now takes gives d q c well s) ∙ distinct_set))
