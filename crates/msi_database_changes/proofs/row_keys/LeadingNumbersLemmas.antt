-- The first values of a table's rows ascend after an accepted change, where they are numbers.
use Rattle.std.proofs.Common.{◌≡◌, ℕ, ◌+◌, ◌<◌, Bool, true, false, cond, List, [], ◌∷◌, ◌++◌, map, length, slice_get, Some, refl, sym, ap, ◌∙◌, subst, arith, Ordering}
use Rattle.std.specs.Prelude.{unwrap_or, IsSomeAnd}
use Rattle.std.specs.List.{AllByRecursion}
use Rattle.std.specs.List.Sorted.{IsSortedByKey}
use Rattle.std.specs.Ordering.{is_eq}
use Rattle.std.specs.Cmp.{tied_itself}
use Rattle.std.specs.Cmp.Lexicographic.{nat_list_cmp_total}
use Rattle.std.specs.FinMap.Entries.{find-put}
use Rattle.std.proofs.lemmas.List.{get_or-map, length-map}
use Rattle.std.proofs.lemmas.List.Sorted.{IsPermutation-sym}
use Rattle.std.proofs.lemmas.Option.{same_Some}
use Rattle.msi_base.specs.Lists.{list_cmp}
use Rattle.msi_pool.specs.Pool.{Place}
use Rattle.msi_table_values.specs.declared.value.Value.{Value}
use Rattle.msi_table_values.specs.declared.value.Value.TheVariants.{Null}
use Rattle.msi_table_cells.specs.declared.cell.ValueRef.{ValueRef}
use Rattle.msi_table_cells.specs.Fitting.{cell_of, FitsRow, FitsTable}
use Rattle.msi_table_cells.specs.CellValues.{value_of_cell, row_values}
use Rattle.msi_table_values.specs.Columns.{ColumnDef, types_of, is_of_category_binary}
use Rattle.msi_table_cells.specs.SortedRows.{HoldsNumbers}
use Rattle.msi_table_cells.specs.SortedRows as sorted
use Rattle.msi_table_cells.specs.StoredOrder.{in_stored_order, row_cmp}
use Rattle.msi_table_values.specs.Values.{value_cmp}
use Rattle.msi_table_cells.specs.TableCells.{TableCells}
use Rattle.msi_database_changes.specs.Database.{Database, table_at, rows_of}
use Rattle.msi_database_changes.specs.Changes.{Change, no_change, pool_of, with_stored}
use Rattle.msi_database_changes.specs.Texts.{PoolInUse, rows_released}
use Rattle.msi_database_changes.specs.Delete.{rows_meeting}
use Rattle.msi_table_cells.specs.KeyOrder.{in_key_order}
use Rattle.msi_database_changes.specs.Laws.{rows_at, RowsFit, LeadingNumbersAscend, LeadingNumbersAscendIn}
use Rattle.msi_database_changes.specs.Widening.{widened}
use Rattle.msi_database_changes.proofs.steps.AtWidthLemmas.{change_at, fits_widened, sound_widened, IsChangeAtWidth, inserted, updated, deleted}
use Rattle.msi_database_changes.proofs.soundness.FitsKeptLemmas.{change_fits}
use Rattle.msi_pool.specs.FirstFitLaws.{TakenPlacesHoldTheirText, GivenBackTakesOne}
use Rattle.msi_table_cells.proofs.StableSortLemmas.{sort_moves}
use Rattle.msi_database_changes.proofs.describing.DescribingLemmas.{rows_at_is}
use Rattle.msi_database_changes.proofs.describing.KindsKeptLemmas.{all_permuted}
use Rattle.msi_database_changes.proofs.row_changes.InsertLemmas.{insert_parts}
use Rattle.msi_database_changes.proofs.row_changes.UpdateLemmas.{update_parts}
use Rattle.msi_database_changes.proofs.row_changes.DeleteLemmas.{delete_parts}

-- what ascends by a key ascends where the key is taken of what each element becomes
sorted_mapped : {X Y K : Type 0} (f : X → Y) (key : Y → K) (cmp : K → K → Ordering) (xs : List X) (x₀ : X) → IsSortedByKey (λ x. key (f x)) cmp xs → IsSortedByKey key cmp (map f xs)
sorted_mapped f key cmp xs x₀ h k d low high =
    let many : length (map f xs) ≡ length xs = length-map xs f in
    let next : k + 1 < length xs = omega (arith, high, many) in
    let this : k < length xs = omega (arith, next) in
    rw (get_or-map f xs (k + 1) x₀ d next, get_or-map f xs k x₀ d this) (h k x₀ low next)

abbrev first_value : List Value → Value
first_value row = unwrap_or (slice_get row 0) Null

same_first : (places : List Place) (row : List ValueRef) → value_of_cell places (cell_of row 0) ≡ first_value (row_values places row)
same_first places [] = refl
same_first places (c ∷ cs) = refl

-- rows of a table that fit it, in their stored order
ascending : (ascend : sorted.LeadingNumbersAscend) (long : Bool) (first : ColumnDef) (others : List ColumnDef) (places : List Place) (rows : List (List ValueRef))
    → HoldsNumbers first.coltype → is_of_category_binary first.category ≡ false → AllByRecursion (FitsRow long (types_of (first ∷ others))) (in_stored_order (first ∷ others) rows)
    → IsSortedByKey first_value value_cmp (map (row_values places) (in_stored_order (first ∷ others) rows))
ascending ascend long first others places rows numbers plain fit =
    let stored = in_stored_order (first ∷ others) rows in
    let own = all_permuted (FitsRow long (types_of (first ∷ others))) stored rows (IsPermutation-sym rows stored (sort_moves (row_cmp (first ∷ others)) rows)) fit in
    sorted_mapped (row_values places) first_value value_cmp stored []
    (subst (λ (key : List ValueRef → Value). IsSortedByKey key value_cmp stored) (λ i row. same_first places row i) (ascend long first others places rows numbers plain own))

-- the rows that a table has fit
fits_now : (long : Bool) (t u : TableCells) → t ≡ u → IsSomeAnd t.rows (FitsTable long (types_of t.columns)) → IsSomeAnd u.rows (FitsTable long (types_of u.columns))
fits_now long t u same h = subst (λ (t : TableCells). IsSomeAnd t.rows (FitsTable long (types_of t.columns))) same h

module _ (ascend : sorted.LeadingNumbersAscend) where
  -- a table that was stored anew
  leading_stored : (d : Database) (name : List ℕ) (columns : List ColumnDef) (rows : List (List ValueRef)) (pool : PoolInUse) → RowsFit (with_stored name columns rows pool (no_change d)).database → LeadingNumbersAscendIn (with_stored name columns rows pool (no_change d))
  leading_stored d name columns rows pool fit n t first others is at has numbers plain =
      let c = with_stored name columns rows pool (no_change d) in
      let new : TableCells = record { columns = columns; rows = Some (in_stored_order columns rows) } in
      let same : name ≡ n = cc in
      let found : table_at name c.database ≡ Some new = find-put list_cmp nat_list_cmp_total name name new d.tables ∙ ap (λ r. cond (is_eq r) (Some new) (table_at name d)) (tied_itself nat_list_cmp_total name) in
      let table : t ≡ new = same_Some t new (sym at ∙ ap (λ (m : List ℕ). table_at m c.database) (sym same) ∙ found) in
      let leads : columns ≡ first ∷ others = ap (λ (u : TableCells). u.columns) (sym table) ∙ has in
      let rows_are : rows_at n c.database ≡ map (row_values c.database.pool.places) (in_stored_order columns rows) = rows_at_is n c.database t at ∙ ap (λ (u : TableCells). map (row_values c.database.pool.places) (rows_of u)) table in
      subst (λ (values : List (List Value)). IsSortedByKey first_value value_cmp values)
      (sym (rows_are ∙ ap (λ (columns : List ColumnDef). map (row_values c.database.pool.places) (in_stored_order columns rows)) leads))
      (ascending ascend d.pool.long first others c.database.pool.places rows numbers plain
      (subst (λ (columns : List ColumnDef). AllByRecursion (FitsRow d.pool.long (types_of columns)) (in_stored_order columns rows)) leads
      (fits_now d.pool.long t new table (fit.tables n t at)).each_row))

module _ (takes : TakenPlacesHoldTheirText) (gives : GivenBackTakesOne) (ascend : sorted.LeadingNumbersAscend) where
  leading_in : (d : Database) (c : Change) → IsChangeAtWidth d c → RowsFit c.database → LeadingNumbersAscendIn c
  leading_in d c (inserted q e) =
      let s = (insert_parts d q c e).1 in
      subst (λ (c : Change). RowsFit c.database → LeadingNumbersAscendIn c) s.stored
      (leading_stored ascend d q.table s.table.columns (in_key_order s.table.columns s.put.1.places (rows_of s.table ++ s.put.0)) s.put.1)
  leading_in d c (updated q e) =
      let s = update_parts d q c e in
      subst (λ (c : Change). RowsFit c.database → LeadingNumbersAscendIn c) s.stored (leading_stored ascend d q.table s.table.columns s.rows.0 s.rows.1)
  leading_in d c (deleted q e) =
      let s = delete_parts d q c e in
      subst (λ (c : Change). RowsFit c.database → LeadingNumbersAscendIn c) s.stored
      (leading_stored ascend d q.table s.table.columns (rows_meeting d.pool.places s.table q.condition false) (rows_released (pool_of (no_change d)) (rows_meeting d.pool.places s.table q.condition true)))

  pub leading_ascend : LeadingNumbersAscend
  leading_ascend d c change formed sound fit = change_at d c change
      (λ s short wide. leading_in (widened d) c wide (change_fits takes gives (widened d) c wide (sound_widened d sound) (fits_widened d fit)))
      (λ same. leading_in d c same (change_fits takes gives d c same sound fit))
