-- Rows that a change makes of rows that fit can be stored, before the change is known to be accepted.
use Rattle.std.proofs.Common.{◌≡◌, ◌+◌, ◌≤◌, Bool, true, not, nat_lt, List, [], ◌∷◌, ◌++◌, filter, map, length, Option, Some, None, refl, ap, subst, arith}
use Rattle.std.specs.Prelude.{IsSomeAnd, option_map, unwrap_or}
use Rattle.std.specs.List.{list_all}
use Rattle.std.proofs.lemmas.Bool.Decides.{nat_tests}
use Rattle.std.proofs.lemmas.Option.{same_Some, none-some, option_and_then_some}
use Rattle.msi_base.specs.declared.errors.ErrorKind.TheVariants.{InvalidInput, InvalidData}
use Rattle.msi_pool.specs.FirstFit.{most_places}
use Rattle.msi_base.specs.Lists.{has_pair}
use Rattle.msi_pool.specs.Pool.{Place}
use Rattle.msi_pool.proofs.TakenLemmas.{taken_takes}
use Rattle.msi_table_values.specs.declared.value.Value.{Value}
use Rattle.msi_table_cells.specs.declared.cell.ValueRef.{ValueRef}
use Rattle.msi_table_values.specs.Columns.{ColumnDef, types_of}
use Rattle.msi_table_cells.specs.Fitting.{FitsTable}
use Rattle.msi_base.specs.Refusals.{Refusals, first_refusal}
use Rattle.msi_table_cells.specs.TableCells.{TableCells}
use Rattle.msi_database_changes.specs.Texts.{PoolInUse, cell_put, in_turn, rows_put}
use Rattle.msi_table_cells.specs.KeyOrder.{in_key_order, key_of, same_key}
use Rattle.msi_database_changes.specs.Insert.{cells_added, keys_of, row_fits, row_refusals, table_with}
use Rattle.msi_database_changes.specs.KeySets.{key_refusals}
use Rattle.msi_database_changes.proofs.steps.RefusedLemmas.{front_fails, first_fails, each_passes}
use Rattle.msi_database_changes.proofs.steps.TracksLemmas.{fewer_fit}
use Rattle.msi_database_changes.proofs.steps.TurnLemmas.{map_some}
use Rattle.msi_database_changes.proofs.soundness.PutFitsLemmas.{Both, CellOf, as_many, joined_fit, put_of, rows_all_fit, rows_put_of}
use Rattle.msi_database.proofs.calls.CanStoreLemmas.{unsorted_fits}

-- ROWS THAT ARE ADDED

row_faults : TableCells → List (List Value) → Refusals
row_faults t values = map (λ row. (not (row_fits t.columns row), InvalidInput)) values

key_faults : List Place → TableCells → List (List Value) → Refusals
key_faults places t values = (has_pair same_key (keys_of places t), InvalidData) ∷ key_refusals (keys_of places t) [] (map (key_of t.columns) values)

length_faults : TableCells → List (List Value) → Refusals
length_faults t values = (nat_lt 65536 (length (unwrap_or t.rows []) + length values), InvalidInput) ∷ []

module _ (places : List Place) (t : TableCells) (values : List (List Value)) (passed : first_refusal (row_refusals places t values) ≡ None) where
  values_fit : list_all (row_fits t.columns) values ≡ true
  unfolding row_faults key_faults length_faults
  values_fit = each_passes (row_fits t.columns) InvalidInput values
      (front_fails (row_faults t values) (key_faults places t values) (front_fails (row_faults t values ++ key_faults places t values) (length_faults t values) passed).0).0

  few_rows : length (unwrap_or t.rows []) + length values ≤ 65536
  unfolding row_faults key_faults length_faults
  few_rows =
      let few = (first_fails (nat_lt 65536 (length (unwrap_or t.rows []) + length values)) InvalidInput []
      (front_fails (row_faults t values ++ key_faults places t values) (length_faults t values) passed).1).0 in
      grind (arith, nat_tests, few)

-- taking texts keeps the pool within its width
module _ (long : Bool) where
  abbrev IsWithin : PoolInUse → Type 0
  IsWithin pool = length pool.places ≤ most_places long

  turn_within : {X Y : Type 0} (step : PoolInUse → X → Option (Y × PoolInUse)) → ((pool : PoolInUse) (x : X) (r : Y × PoolInUse) → IsWithin pool → step pool x ≡ Some r → IsWithin r.1)
      → (pool : PoolInUse) (xs : List X) (r : List Y × PoolInUse) → IsWithin pool → in_turn step pool xs ≡ Some r → IsWithin r.1
  turn_within step each pool [] r w e = subst (λ (r : List _ × PoolInUse). IsWithin r.1) (same_Some ([], pool) r e) w
  turn_within step each pool (x ∷ xs) r w e = option_and_then_some _ (step pool x) r e (λ y y_is rest. map_some _ (in_turn step y.1 xs) r rest (λ ys ys_is whole.
      subst (λ (r : List _ × PoolInUse). IsWithin r.1) whole (turn_within step each y.1 xs ys (each pool x y w y_is) ys_is)))

  pub rows_put_within : (pool : PoolInUse) (values : List (List Value)) (r : List (List ValueRef) × PoolInUse) → IsWithin pool → rows_put long pool values ≡ Some r → IsWithin r.1
  rows_put_within pool values r w e = turn_within (in_turn (cell_put long)) (turn_within (cell_put long) (λ pool v r w e. (put_of taken_takes long pool v r w e).1)) pool values r w e

  -- rows that fit, with new ones, can be stored
  pub added_can_store : (t : TableCells) (pool : PoolInUse) (values : List (List Value)) (r : List (List ValueRef) × PoolInUse) → IsSomeAnd t.rows (FitsTable long (types_of t.columns)) → IsWithin pool
      → first_refusal (row_refusals pool.places t values) ≡ None → rows_put long pool values ≡ Some r
      → FitsTable long (types_of t.columns) (in_key_order t.columns r.1.places (unwrap_or t.rows [] ++ r.0))
  added_can_store t pool values r fits within passed put =
      let of : Both (Both (CellOf long)) values r.0 = rows_put_of taken_takes long pool values r within put in
      let same = as_many (Both (CellOf long)) values r.0 of in
      let few = few_rows pool.places t values passed in
      unsorted_fits long t.columns (in_key_order t.columns r.1.places (unwrap_or t.rows [] ++ r.0))
      (joined_fit t.columns long r.1.places t.rows r.0 fits (omega (arith, same, few)) (rows_all_fit long t.columns values r.0 (values_fit pool.places t values passed) of))

  -- the same of the rows as a call makes them
  added_is : (columns : List ColumnDef) (rows : List (List ValueRef)) (o : Option (List (List ValueRef) × PoolInUse)) (all : List (List ValueRef)) (used : PoolInUse)
      → option_map {U = List (List ValueRef) × PoolInUse} (λ r. (in_key_order columns r.1.places (rows ++ r.0), r.1)) o ≡ Some (all, used)
      → (r : List (List ValueRef) × PoolInUse) × (o ≡ Some r) × (in_key_order columns r.1.places (rows ++ r.0) ≡ all) × (r.1 ≡ used)
  added_is columns rows None all used e = absurd (none-some (all, used) e)
  added_is columns rows (Some r) all used e = let same = same_Some (in_key_order columns r.1.places (rows ++ r.0), r.1) (all, used) e in
      (r, refl, ap (λ (x : List (List ValueRef) × PoolInUse). x.0) same, ap (λ (x : List (List ValueRef) × PoolInUse). x.1) same)

  pub cells_can_store : (columns : List ColumnDef) (rows : List (List ValueRef)) (pool : PoolInUse) (values : List (List Value)) (all : List (List ValueRef)) (used : PoolInUse) → FitsTable long (types_of columns) rows → IsWithin pool
      → first_refusal (row_refusals pool.places (table_with columns rows) values) ≡ None → cells_added long columns pool rows values ≡ Some (all, used) → FitsTable long (types_of columns) all × IsWithin used
  cells_can_store columns rows pool values all used fits within passed e =
      let r = added_is columns rows (rows_put long pool values) all used e in (
        subst (FitsTable long (types_of columns)) r.2 (added_can_store (table_with columns rows) pool values r.0 fits within passed r.1),
        subst IsWithin r.3 (rows_put_within pool values r.0 within r.1),
      )

  -- so can fewer of them
  pub fewer_can_store : (columns : List ColumnDef) (rows : List (List ValueRef)) (p : List ValueRef → Bool) → FitsTable long (types_of columns) rows → FitsTable long (types_of columns) (filter p rows)
  fewer_can_store columns rows p fits = unsorted_fits long columns (filter p rows) (fewer_fit columns long (Some rows) p fits)
