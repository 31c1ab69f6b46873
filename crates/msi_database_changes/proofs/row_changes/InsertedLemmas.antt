-- Rows that an insert adds, from any change on.
use Rattle.std.proofs.Common.{◌≡◌, ℕ, ◌+◌, Bool, true, not, nat_lt, List, [], ◌∷◌, ◌++◌, map, length, Some, None, Ok, refl, sym, ap, ap₂, ◌∙◌, subst, arith, ◌==◌, IsPermutation, zip}
use Rattle.std.specs.List.{list_all}
use Rattle.std.proofs.lemmas.Bool.{and_parts, and_from}
use Rattle.std.proofs.lemmas.List.{map-append}
use Rattle.std.proofs.lemmas.List.Folds.{list_all-append}
use Rattle.std.proofs.lemmas.List.Sorted.{IsPermutation-trans}
use Rattle.msi_base.specs.declared.errors.ErrorKind.TheVariants.{InvalidData, InvalidInput, NotFound}
use Rattle.msi_pool.specs.FirstFitLaws.{TakenPlacesHoldTheirText, GivenBackTakesOne}
use Rattle.msi_base.specs.Lists.{has_pair}
use Rattle.msi_table_values.specs.declared.value.Value.{Value}
use Rattle.msi_table_cells.specs.declared.cell.ValueRef.{ValueRef}
use Rattle.msi_table_values.specs.Columns.{ColumnDef}
use Rattle.msi_table_values.specs.ValidValues.{is_valid_value}
use Rattle.msi_table_cells.specs.CellValues.{row_values}
use Rattle.msi_table_cells.specs.StoredOrder.{row_cmp, in_stored_order}
use Rattle.msi_base.specs.Refusals.{Refusals, first_refusal, unless_refused, or_refused, ◌>>=◌}
use Rattle.msi_table_cells.specs.KeyOrder.{key_of, same_key, key_cmp, in_key_order}
use Rattle.msi_database_changes.specs.Database.{Database, table_at, rows_of, is_sound, CountsAreExact}
use Rattle.msi_table_cells.specs.TableCells.{TableCells}
use Rattle.msi_database_changes.specs.Changes.{Change, pool_of, with_stored}
use Rattle.msi_database_changes.specs.Texts.{PoolInUse, rows_put}
use Rattle.msi_database_changes.specs.KeySets.{key_refusals}
use Rattle.msi_database_changes.specs.Insert.{keys_of, row_fits, row_refusals, rows_added, rows_inserted}
use Rattle.msi_database_changes.specs.Laws.{rows_at, OthersStay}
use Rattle.msi_database_changes.proofs.steps.RefusedLemmas.{bind_ok, not_refused, value_there, front_fails, each_passes}
use Rattle.msi_database_changes.proofs.steps.TurnLemmas.{map_some, total-append}
use Rattle.msi_database_changes.proofs.text_counts.RowsLemmas.{row_uses, rows_uses, RowsPut, rows_put_moves}
use Rattle.msi_database_schema.proofs.SortLemmas.{all_sorted, values_sorted, long_as_values}
use Rattle.msi_database_changes.proofs.text_counts.TablesLemmas.{table_uses, database_uses, total-sorted}
use Rattle.msi_database_changes.proofs.steps.StoredLemmas.{rows_are_full, WellFormed, rows_full, uses_before, Exchanged, enough_before, stored_sound, stored_well, stored_exact}
use Rattle.msi_database_changes.proofs.steps.ValuesLemmas.{rows_stay, others_stay, rows_after, rows_before}

-- what an insert does, from the change before it on
pub record Inserted (b : Change) (name : List ℕ) (values : List (List Value)) (c : Change) : Type 0 where
  pub table : TableCells
  pub found : table_at name b.database ≡ Some table
  pub passed : first_refusal (row_refusals b.database.pool.places table values) ≡ None
  pub put : List (List ValueRef) × PoolInUse
  pub put_is : rows_put b.database.pool.long (pool_of b) values ≡ Some put
  pub stored : with_stored name table.columns (in_key_order table.columns put.1.places (rows_of table ++ put.0)) put.1 b ≡ c

abbrev pub row_faults : List (List Value) → TableCells → Refusals
row_faults values t = map (λ row. (not (row_fits t.columns row), InvalidInput)) values

abbrev pub key_faults : Database → List (List Value) → TableCells → Refusals
key_faults d values t = (has_pair same_key (keys_of d.pool.places t), InvalidData) ∷ key_refusals (keys_of d.pool.places t) [] (map (key_of t.columns) values)

abbrev pub length_faults : List (List Value) → TableCells → Refusals
length_faults values t = (nat_lt 65536 (length (rows_of t) + length values), InvalidInput) ∷ []

pub rows_fit : (d : Database) (values : List (List Value)) (t : TableCells) → first_refusal (row_refusals d.pool.places t values) ≡ None → list_all (row_fits t.columns) values ≡ true
rows_fit d values t e = each_passes (row_fits t.columns) InvalidInput values (front_fails (row_faults values t) (key_faults d values t) (front_fails (row_faults values t ++ key_faults d values t) (length_faults values t) e).0).0

pub keys_fit : (d : Database) (values : List (List Value)) (t : TableCells) → first_refusal (row_refusals d.pool.places t values) ≡ None
    → first_refusal ((has_pair same_key (keys_of d.pool.places t), InvalidData) ∷ key_refusals (keys_of d.pool.places t) [] (map (key_of t.columns) values)) ≡ None
keys_fit d values t e = (front_fails (row_faults values t) (key_faults d values t) (front_fails (row_faults values t ++ key_faults d values t) (length_faults values t) e).0).1

with_table_found : (b : Change) (name : List ℕ) (values : List (List Value)) (c : Change) (t : TableCells) → table_at name b.database ≡ Some t
    → (unless_refused (row_refusals b.database.pool.places t values) t >>= (λ t. or_refused InvalidInput (rows_added name t values b))) ≡ Ok c → Inserted b name values c
with_table_found b name values c t found e =
    bind_ok (unless_refused (row_refusals b.database.pool.places t values) t) (λ t. or_refused InvalidInput (rows_added name t values b)) c e
    (λ u u_is rest.
    let passed = not_refused (row_refusals b.database.pool.places t values) t u u_is in
    map_some _ (rows_put b.database.pool.long (pool_of b) values) c
    (value_there InvalidInput (rows_added name t values b) c (subst (λ u. or_refused InvalidInput (rows_added name u values b) ≡ Ok c) (sym passed.1) rest))
    (λ r r_is whole. record { table = t; found = found; passed = passed.0; put = r; put_is = r_is; stored = whole }))

pub inserted_parts : (b : Change) (name : List ℕ) (values : List (List Value)) (c : Change) → rows_inserted name values b ≡ Ok c → Inserted b name values c
inserted_parts b name values c e =
    bind_ok (or_refused NotFound (table_at name b.database)) (λ t. unless_refused (row_refusals b.database.pool.places t values) t >>= (λ t. or_refused InvalidInput (rows_added name t values b))) c e
    (λ t t_is rest. with_table_found b name values c t (value_there NotFound (table_at name b.database) t t_is) rest)

-- values that fit fill their rows
fitting_full : (columns : List ColumnDef) (rows : List (List Value)) → list_all (row_fits columns) rows ≡ true → list_all (λ vs. length vs == length columns) rows ≡ true
fitting_full columns [] h = refl
fitting_full columns (row ∷ rows) h =
    let parts = and_parts (row_fits columns row) (list_all (row_fits columns) rows) h in
    and_from (length row == length columns) (list_all (λ vs. length vs == length columns) rows)
    (and_parts (length row == length columns) (list_all (λ e. is_valid_value e.0 e.1) (zip columns row)) parts.0).0 (fitting_full columns rows parts.1)

module _ (takes : TakenPlacesHoldTheirText) (gives : GivenBackTakesOne) (b : Change) (name : List ℕ) (values : List (List Value)) (c : Change) (sound : is_sound b.database ≡ true) (well : WellFormed b.database) (s : Inserted b name values c) where
  abbrev d : Database
  d = b.database

  abbrev all_rows : List (List ValueRef)
  all_rows = rows_of s.table ++ s.put.0

  -- the rows as they are stored
  abbrev pub rows_now : List (List ValueRef)
  rows_now = in_stored_order s.table.columns (in_key_order s.table.columns s.put.1.places all_rows)

  put_moves : RowsPut takes gives d.pool.long (database_uses d) values (pool_of b) s.put
  put_moves = rows_put_moves takes gives d.pool.long (database_uses d) values (pool_of b) s.put (enough_before d name s.table s.found well.in_order sound well) s.put_is

  uses_now : (n : ℕ) → rows_uses rows_now n ≡ table_uses s.table n + rows_uses s.put.0 n
  uses_now n = total-sorted row_uses (row_cmp s.table.columns) (in_key_order s.table.columns s.put.1.places all_rows) n
      ∙ total-sorted row_uses (key_cmp s.table.columns s.put.1.places) all_rows n ∙ total-append row_uses (rows_of s.table) s.put.0 n

  pub inserted_moved : Exchanged d name s.table s.found well.in_order rows_now s.put.1.places
  inserted_moved = record {
    balance = λ n. omega (arith, put_moves.moved.balance n, uses_now n);
    texts = λ n h. put_moves.moved.texts n (omega (arith, h, uses_before d name s.table s.found well.in_order n));
    width = put_moves.moved.width;
  }

  full_now : rows_are_full s.table.columns rows_now ≡ true
  full_now =
      let full : List ValueRef → Bool = λ row. length row == length s.table.columns in
      let new : list_all full s.put.0 ≡ true = sym (long_as_values s.put.1.places (length s.table.columns) s.put.0)
      ∙ ap (list_all (λ vs. length vs == length s.table.columns)) put_moves.values ∙ fitting_full s.table.columns values (rows_fit d values s.table s.passed) in
      let both : list_all full all_rows ≡ true = list_all-append full (rows_of s.table) s.put.0 ∙ and_from (list_all full (rows_of s.table)) (list_all full s.put.0) (rows_full d name s.table well s.found) new in
      all_sorted (row_cmp s.table.columns) full (in_key_order s.table.columns s.put.1.places all_rows) (all_sorted (key_cmp s.table.columns s.put.1.places) full all_rows both)

  pub inserted_sound : is_sound c.database ≡ true
  inserted_sound = subst (λ (c : Change). is_sound c.database ≡ true) s.stored (stored_sound d name s.table s.found well.in_order rows_now s.put.1.places sound well inserted_moved)

  pub inserted_well : WellFormed c.database
  inserted_well = subst (λ (c : Change). WellFormed c.database) s.stored (stored_well d name s.table s.found well.in_order rows_now s.put.1.places sound well inserted_moved full_now)

  pub inserted_exact : CountsAreExact d → CountsAreExact c.database
  inserted_exact exact = subst (λ (c : Change). CountsAreExact c.database) s.stored (stored_exact d name s.table s.found well.in_order rows_now s.put.1.places sound well inserted_moved exact)

  pub values_now : map (row_values s.put.1.places) all_rows ≡ rows_at name d ++ values
  values_now = map-append (row_values s.put.1.places) (rows_of s.table) s.put.0
      ∙ ap₂ (λ (xs ys : List (List Value)). xs ++ ys)
      (rows_stay (rows_of s.table) d.pool.places s.put.1.places (λ n h. put_moves.moved.texts n (omega (arith, h, uses_before d name s.table s.found well.in_order n)))
      ∙ sym (rows_before d name s.table s.found well.in_order))
      put_moves.values

  rows_moved : IsPermutation (map (row_values s.put.1.places) all_rows) (map (row_values s.put.1.places) rows_now)
  rows_moved =
      let keyed = in_key_order s.table.columns s.put.1.places all_rows in
      IsPermutation-trans (map (row_values s.put.1.places) all_rows) (map (row_values s.put.1.places) keyed) (map (row_values s.put.1.places) rows_now)
      (values_sorted s.put.1.places (key_cmp s.table.columns s.put.1.places) all_rows) (values_sorted s.put.1.places (row_cmp s.table.columns) keyed)

  -- the table has the rows that it had and those of the query, and the others are as they were
  pub inserted_adds : IsPermutation (rows_at name d ++ values) (rows_at name c.database) × OthersStay name d c.database
  inserted_adds = subst (λ (c : Change). IsPermutation (rows_at name d ++ values) (rows_at name c.database) × OthersStay name d c.database) s.stored (
    rw (rows_after d name s.table s.found well.in_order rows_now s.put.1.places, ← values_now) rows_moved,
    others_stay d name s.table s.found well.in_order rows_now s.put.1.places inserted_moved.texts,
  )
