-- What an update does to the pool step by step, and that the rows that it sets fit their columns.
use Rattle.std.proofs.Common.{◌≡◌, ℕ, suc, zero, ◌≤◌, Bool, true, false, List, [], ◌∷◌, length, set, Option, Some, None, arith, refl, sym, subst, ⊎_elim, lit≤}
use Rattle.std.specs.Prelude.{slice_get, option_and_then, unwrap_or}
use Rattle.std.specs.Option.{option_map_or}
use Rattle.std.specs.List.{AllByRecursion, list_all}
use Rattle.std.proofs.lemmas.Bool.{and_parts, cases_Bool, true≢false}
use Rattle.std.proofs.lemmas.Option.{same_Some, none-some, option_and_then_some}
use Rattle.msi_pool.specs.Pool.{Place}
use Rattle.msi_pool.specs.FirstFit.{most_places, given_back}
use Rattle.msi_pool.specs.FirstFitLaws.{TakenPlacesHoldTheirText, GivenBackTakesOne}
use Rattle.msi_table_values.specs.declared.value.Value.{Value}
use Rattle.msi_table_cells.specs.declared.cell.ValueRef.{ValueRef}
use Rattle.msi_table_cells.specs.declared.cell.ValueRef.TheVariants as cell
use Rattle.msi_table_values.specs.Columns.{ColumnDef, types_of, column_index}
use Rattle.msi_table_cells.specs.Fitting.{cell_of, FitsColumn, FitsRow}
use Rattle.msi_table_cells.specs.CellValues.{row_values}
use Rattle.msi_table_values.specs.ValidValues.{is_valid_value}
use Rattle.msi_query.specs.Queries.{UpdateQuery}
use Rattle.msi_query_expressions.specs.Conditions.{meets}
use Rattle.msi_database_changes.specs.Texts.{PoolInUse, cell_put, cell_released, in_turn}
use Rattle.msi_database_changes.specs.Setting.{cells_set, index_of}
use Rattle.msi_database_changes.specs.Update.{row_updated, set_is_valid}
use Rattle.msi_database_changes.proofs.steps.TurnLemmas.{map_some}
use Rattle.msi_database_changes.proofs.text_counts.PoolStepLemmas.{PoolStep, no_step, step_then, turn_steps, put_step, released_step}
use Rattle.msi_database_changes.proofs.soundness.PutFitsLemmas.{fits_cell, put_of}

module _ (takes : TakenPlacesHoldTheirText) (gives : GivenBackTakesOne) (long : Bool) where
  -- THE POOL

  cells_set_step : (columns : List ColumnDef) (sets : List (List ℕ × Value)) (row : List ValueRef) (pool : PoolInUse) (r : List ValueRef × PoolInUse) → cells_set long columns pool row sets ≡ Some r → PoolStep pool r.1
  cells_set_step columns [] row pool r e = subst (λ (r : List ValueRef × PoolInUse). PoolStep pool r.1) (same_Some (row, pool) r e) (no_step pool)
  cells_set_step columns (s ∷ ss) row pool r e =
      let given : PoolInUse = cell_released pool (cell_of row (index_of columns s)) in
      option_and_then_some _ (cell_put long given s.1) r e (λ y y_is rest.
      step_then pool given r.1 (released_step takes gives pool (cell_of row (index_of columns s)))
      (step_then given y.1 r.1 (put_step takes gives long given s.1 y y_is) (cells_set_step columns ss (set row (index_of columns s) y.0) y.1 r rest)))

  row_step : (places : List Place) (columns : List ColumnDef) (q : UpdateQuery) (pool : PoolInUse) (row : List ValueRef) (r : List ValueRef × PoolInUse) → row_updated long places columns q pool row ≡ Some r → PoolStep pool r.1
  row_step places columns q pool row r e = ⊎_elim
      (λ (t : meets columns q.condition (row_values places row) ≡ true). cells_set_step columns q.sets row pool r (rw t at e))
      (λ (t : meets columns q.condition (row_values places row) ≡ false). subst (λ (r : List ValueRef × PoolInUse). PoolStep pool r.1) (same_Some (row, pool) r (rw t at e)) (no_step pool))
      (cases_Bool (meets columns q.condition (row_values places row)))

  pub rows_updated_step : (places : List Place) (columns : List ColumnDef) (q : UpdateQuery) (pool : PoolInUse) (rows : List (List ValueRef)) (r : List (List ValueRef) × PoolInUse)
      → in_turn (row_updated long places columns q) pool rows ≡ Some r → PoolStep pool r.1
  rows_updated_step places columns q pool rows r e = turn_steps (row_updated long places columns q) (row_step places columns q) pool rows r e

  -- ROWS THAT ARE SET

  abbrev IsWithin : PoolInUse → Type 0
  IsWithin pool = length pool.places ≤ most_places long

  abbrev FitsAfter : List ColumnDef → List ValueRef × PoolInUse → Type 0
  FitsAfter columns r = FitsRow long (types_of columns) r.0 × IsWithin r.1

  -- giving back keeps the number of places; the number 0 stands for the first place, too
  back_within : (places : List Place) (number : ℕ) (o : Option (List Place)) → given_back places number ≡ o → length (unwrap_or o places) ≡ length places
  back_within places number None e = refl
  back_within places zero (Some after) e = (gives places after 1 (lit≤ tt) e).many
  back_within places (suc i) (Some after) e = (gives places after (suc i) (omega arith) e).many

  released_within : (pool : PoolInUse) (c : ValueRef) → IsWithin pool → IsWithin (cell_released pool c)
  released_within pool (cell.Str number) h = let same = back_within pool.places number (given_back pool.places number) refl in omega (arith, same, h)
  released_within pool cell.Null h = h
  released_within pool (cell.Int n) h = h
  released_within pool cell.Binary h = h

  set_fits : (columns : List ColumnDef) (row : List ValueRef) (i : ℕ) (c : ColumnDef) (x : ValueRef) → FitsRow long (types_of columns) row → slice_get columns i ≡ Some c → FitsColumn long c.coltype x
      → FitsRow long (types_of columns) (set row i x)
  set_fits [] row i c x f at g = absurd (none-some c at)
  set_fits (d ∷ ds) [] i c x f at g = absurd f
  set_fits (d ∷ ds) (y ∷ ys) zero c x f at g = (subst (λ (d : ColumnDef). FitsColumn long d.coltype x) (sym (same_Some d c at)) g, f.1)
  set_fits (d ∷ ds) (y ∷ ys) (suc i) c x f at g = (f.0, set_fits ds ys i c x f.1 at g)

  -- a valid set names a column, which takes its value
  valid_column : (columns : List ColumnDef) (v : Value) (o : Option ℕ) → option_map_or (λ c. is_valid_value c v) (option_and_then (slice_get columns) o) false ≡ true
      → (c : ColumnDef) × (slice_get columns (unwrap_or o 0) ≡ Some c) × (is_valid_value c v ≡ true)
  valid_column columns v None e = absurd (true≢false (sym e))
  valid_column columns v (Some i) e = valid_at (slice_get columns i) refl e
    where
      valid_at : (o : Option ColumnDef) → slice_get columns i ≡ o → option_map_or (λ c. is_valid_value c v) o false ≡ true → (c : ColumnDef) × (slice_get columns i ≡ Some c) × (is_valid_value c v ≡ true)
      valid_at None is e = absurd (true≢false (sym e))
      valid_at (Some c) is e = (c, is, e)

  cells_set_fit : (columns : List ColumnDef) (sets : List (List ℕ × Value)) (row : List ValueRef) (pool : PoolInUse) (r : List ValueRef × PoolInUse) → IsWithin pool → FitsRow long (types_of columns) row
      → list_all (set_is_valid columns) sets ≡ true → cells_set long columns pool row sets ≡ Some r → FitsAfter columns r
  cells_set_fit columns [] row pool r w f valid e = subst (FitsAfter columns) (same_Some (row, pool) r e) (f, w)
  cells_set_fit columns (s ∷ ss) row pool r w f valid e =
      let parts = and_parts (set_is_valid columns s) (list_all (set_is_valid columns) ss) valid in
      let (c, at, is_valid) = valid_column columns s.1 (column_index s.0 columns) parts.0 in
      let given : PoolInUse = cell_released pool (cell_of row (index_of columns s)) in
      let given_within = released_within pool (cell_of row (index_of columns s)) w in
      option_and_then_some _ (cell_put long given s.1) r e (λ y y_is rest.
      let put = put_of takes long given s.1 y given_within y_is in
      cells_set_fit columns ss (set row (index_of columns s) y.0) y.1 r put.1 (set_fits columns row (index_of columns s) c y.0 f at (fits_cell long c s.1 y.0 is_valid put.0)) parts.1 rest)

  row_fits_after : (places : List Place) (columns : List ColumnDef) (q : UpdateQuery) (pool : PoolInUse) (row : List ValueRef) (r : List ValueRef × PoolInUse) → IsWithin pool → FitsRow long (types_of columns) row
      → list_all (set_is_valid columns) q.sets ≡ true → row_updated long places columns q pool row ≡ Some r → FitsAfter columns r
  row_fits_after places columns q pool row r w f valid e = ⊎_elim
      (λ (t : meets columns q.condition (row_values places row) ≡ true). cells_set_fit columns q.sets row pool r w f valid (rw t at e))
      (λ (t : meets columns q.condition (row_values places row) ≡ false). subst (FitsAfter columns) (same_Some (row, pool) r (rw t at e)) (f, w))
      (cases_Bool (meets columns q.condition (row_values places row)))

  -- as many rows, which fit
  pub record AreSet (columns : List ColumnDef) (many : ℕ) (rows : List (List ValueRef)) : Type 0 where
    pub each : AllByRecursion (FitsRow long (types_of columns)) rows
    pub count : length rows ≡ many

  pub rows_updated_fit : (places : List Place) (columns : List ColumnDef) (q : UpdateQuery) (rows : List (List ValueRef)) (pool : PoolInUse) (r : List (List ValueRef) × PoolInUse) → IsWithin pool
      → AllByRecursion (FitsRow long (types_of columns)) rows → list_all (set_is_valid columns) q.sets ≡ true → in_turn (row_updated long places columns q) pool rows ≡ Some r → AreSet columns (length rows) r.0
  rows_updated_fit places columns q [] pool r w f valid e = subst (λ (r : List (List ValueRef) × PoolInUse). AreSet columns 0 r.0) (same_Some ([], pool) r e) (record { each = tt; count = refl })
  rows_updated_fit places columns q (row ∷ rows) pool r w f valid e = option_and_then_some _ (row_updated long places columns q pool row) r e (λ y y_is rest.
      map_some _ (in_turn (row_updated long places columns q) y.1 rows) r rest (λ ys ys_is whole.
      let here = row_fits_after places columns q pool row y w f.0 valid y_is in
      let more = rows_updated_fit places columns q rows y.1 ys here.1 f.1 valid ys_is in
      subst (λ (r : List (List ValueRef) × PoolInUse). AreSet columns (suc (length rows)) r.0) whole (record { each = (here.0, more.each); count = let same = more.count in omega (arith, same) })))
