-- An update.
use Rattle.std.proofs.Common.{◌≡◌, ℕ, ◌<◌, Bool, true, false, not, ◌&&◌, List, [], ◌∷◌, ◌++◌, map, length, set, Option, Some, None, option_and_then, Result, Ok, refl, sym, ap, ◌∙◌, subst, arith, ⊎_elim, ◌==◌, IsPermutation, slice_get, length-set}
use Rattle.std.specs.List.{list_all, AllByRecursion}
use Rattle.std.specs.Option.{option_map_or}
use Rattle.std.specs.Prelude.{unwrap_or}
use Rattle.std.proofs.lemmas.Bool.{cases_Bool, and_parts, and_from, not-false}
use Rattle.std.proofs.lemmas.Bool.Decides.{nat_tests}
use Rattle.std.proofs.lemmas.List.{length-map}
use Rattle.std.proofs.lemmas.Option.{slice_get_within}
use Rattle.msi_base.specs.declared.errors.ErrorKind.{ErrorKind}
use Rattle.msi_base.specs.declared.errors.ErrorKind.TheVariants.{InvalidData, InvalidInput, NotFound, AlreadyExists}
use Rattle.msi_pool.specs.Pool.{Place}
use Rattle.msi_pool.specs.FirstFitLaws.{TakenPlacesHoldTheirText, GivenBackTakesOne}
use Rattle.msi_base.specs.Lists.{has_pair}
use Rattle.msi_table_values.specs.declared.value.Value.{Value}
use Rattle.msi_table_cells.specs.declared.cell.ValueRef.{ValueRef}
use Rattle.msi_table_values.specs.Columns.{ColumnDef, column_index}
use Rattle.msi_table_cells.specs.CellValues.{row_values}
use Rattle.msi_table_cells.specs.StoredOrder.{row_cmp, in_stored_order}
use Rattle.msi_table_values.specs.ValidValues.{is_valid_value}
use Rattle.msi_query.specs.Queries.{UpdateQuery}
use Rattle.msi_query_expressions.specs.Conditions.{meets}
use Rattle.msi_query.specs.Selection.{has_columns, condition_names}
use Rattle.msi_base.specs.Refusals.{Refusals, unless_refused, or_refused, ◌>>=◌}
use Rattle.msi_table_cells.specs.KeyOrder.{key_of, same_key}
use Rattle.msi_database_changes.specs.Database.{Database, table_at, rows_of, is_sound, CountsAreExact}
use Rattle.msi_table_cells.specs.TableCells.{TableCells}
use Rattle.msi_database_changes.specs.Changes.{Change, no_change, pool_of, with_stored, sound_refusal}
use Rattle.msi_database_changes.specs.Texts.{PoolInUse, in_turn}
use Rattle.msi_database_changes.specs.Update.{set_is_valid, sets_key, values_after, keys_collide, update_refusals, row_updated, rows_updated, is_update_barred, update_at_width}
use Rattle.msi_database_changes.specs.Setting.{index_of, values_set}
use Rattle.msi_database_changes.specs.Laws.{rows_at, OthersStay}
use Rattle.msi_database_changes.proofs.steps.TurnLemmas.{map_some}
use Rattle.msi_database_changes.proofs.steps.RefusedLemmas.{bind_ok, not_refused, value_there, first_fails, front_fails, each_passes, none_holds}
use Rattle.msi_database_changes.proofs.text_counts.RowsLemmas.{row_uses}
use Rattle.msi_database_changes.proofs.row_changes.SetCellsLemmas.{SetsWithin}
use Rattle.msi_database_changes.proofs.row_changes.UpdatedLemmas.{values_updated, RowsUpdated, rows_updated_moves}
use Rattle.msi_database_schema.proofs.SortLemmas.{all_sorted, values_sorted, long_as_values}
use Rattle.msi_database_changes.proofs.text_counts.TablesLemmas.{total-sorted}
use Rattle.msi_database_changes.proofs.steps.StoredLemmas.{rows_are_full, WellFormed, rows_full, others, uses_before, Exchanged, enough_before, stored_sound, stored_well, stored_exact}
use Rattle.msi_database_changes.proofs.steps.ValuesLemmas.{others_stay, rows_after, rows_before}

-- what an accepted update does
pub record Updated (d : Database) (q : UpdateQuery) (c : Change) : Type 0 where
  pub sound : is_sound d ≡ true
  pub table : TableCells
  pub found : table_at q.table d ≡ Some table
  pub valid : list_all (set_is_valid table.columns) q.sets ≡ true
  pub keys : (sets_key table.columns q.sets && has_pair same_key (map (key_of table.columns) (values_after table q (map (row_values d.pool.places) (rows_of table))))) ≡ false
  pub rows : List (List ValueRef) × PoolInUse
  pub rows_are : in_turn (row_updated d.pool.long d.pool.places table.columns q) (pool_of (no_change d)) (rows_of table) ≡ Some rows
  pub stored : with_stored q.table table.columns rows.0 rows.1 (no_change d) ≡ c

abbrev early_refusals : Database → UpdateQuery → Refusals
early_refusals d q = sound_refusal d ++ (is_update_barred q, InvalidInput) ∷ []

abbrev updated_in : Database → UpdateQuery → TableCells → Change → Result Change ErrorKind
updated_in d q t c = unless_refused (update_refusals d.pool.places t q) t >>= λ t. or_refused InvalidInput (rows_updated t q c)

abbrev updated_from : Database → UpdateQuery → Change → Result Change ErrorKind
updated_from d q c = or_refused NotFound (table_at q.table d) >>= λ t. updated_in d q t c

abbrev set_faults : UpdateQuery → TableCells → Refusals
set_faults q t = map (λ s. (not (set_is_valid t.columns s), InvalidInput)) q.sets

abbrev name_faults : UpdateQuery → TableCells → Refusals
name_faults q t = (not (has_columns t.columns (condition_names q.condition)), InvalidInput) ∷ []

abbrev key_faults : Database → UpdateQuery → TableCells → Refusals
key_faults d q t = (keys_collide d.pool.places t q, AlreadyExists) ∷ []

with_table_found : (d : Database) (q : UpdateQuery) (c : Change) (t : TableCells) → is_sound d ≡ true → table_at q.table d ≡ Some t → updated_in d q t (no_change d) ≡ Ok c → Updated d q c
with_table_found d q c t sound found e =
    bind_ok (unless_refused (update_refusals d.pool.places t q) t) (λ t. or_refused InvalidInput (rows_updated t q (no_change d))) c e
    (λ u u_is rest.
    let passed = not_refused (update_refusals d.pool.places t q) t u u_is in
    map_some _ (in_turn (row_updated d.pool.long d.pool.places t.columns q) (pool_of (no_change d)) (rows_of t)) c
    (value_there InvalidInput (rows_updated t q (no_change d)) c (subst (λ u. or_refused InvalidInput (rows_updated u q (no_change d)) ≡ Ok c) (sym passed.1) rest))
    (λ r r_is whole. record {
      sound = sound;
      table = t;
      found = found;
      rows = r;
      rows_are = r_is;
      stored = whole;
      valid = each_passes (set_is_valid t.columns) InvalidInput q.sets (front_fails (set_faults q t) (name_faults q t) (front_fails (set_faults q t ++ name_faults q t) (key_faults d q t) passed.0).0).0;
      keys = (none_holds (key_faults d q t) (front_fails (set_faults q t ++ name_faults q t) (key_faults d q t) passed.0).1).0;
    }))

pub update_parts : (d : Database) (q : UpdateQuery) (c : Change) → update_at_width d q ≡ Ok c → Updated d q c
update_parts d q c e =
    bind_ok (unless_refused (early_refusals d q) (no_change d)) (updated_from d q) c e
    (λ c₀ c₀_is rest.
    let passed = not_refused (early_refusals d q) (no_change d) c₀ c₀_is in
    let sound = not-false (is_sound d) (first_fails (not (is_sound d)) InvalidData [] (front_fails (sound_refusal d) ((is_update_barred q, InvalidInput) ∷ []) passed.0).0).0 in
    bind_ok (or_refused NotFound (table_at q.table d)) (λ t. updated_in d q t (no_change d)) c (subst (λ c₁. updated_from d q c₁ ≡ Ok c) (sym passed.1) rest)
    (λ t t_is rest'. with_table_found d q c t sound (value_there NotFound (table_at q.table d) t t_is) rest'))

-- a valid set names a column that there is
index_within : (columns : List ColumnDef) (v : Value) (o : Option ℕ) → option_map_or (λ c. is_valid_value c v) (option_and_then (slice_get columns) o) false ≡ true → unwrap_or o 0 < length columns
index_within columns v None e = cc
index_within columns v (Some i) e = at_column (slice_get columns i) refl e where
  at_column : (o : Option ColumnDef) → slice_get columns i ≡ o → option_map_or (λ c. is_valid_value c v) o false ≡ true → i < length columns
  at_column None is e = cc
  at_column (Some c) is e = slice_get_within columns i c is

sets_within : (columns : List ColumnDef) (sets : List (List ℕ × Value)) (width : ℕ) → width ≡ length columns → list_all (set_is_valid columns) sets ≡ true → SetsWithin columns sets width
sets_within columns [] width e h = tt
sets_within columns (s ∷ ss) width e h =
    let parts = and_parts (set_is_valid columns s) (list_all (set_is_valid columns) ss) h in
    let within : index_of columns s < length columns = index_within columns s.1 (column_index s.0 columns) parts.0 in
    (omega (arith, within, e), sets_within columns ss width e parts.1)

all_reached : (columns : List ColumnDef) (q : UpdateQuery) (rows : List (List ValueRef)) → list_all (set_is_valid columns) q.sets ≡ true → rows_are_full columns rows ≡ true
    → AllByRecursion (λ row. SetsWithin columns q.sets (length row)) rows
all_reached columns q [] valid h = tt
all_reached columns q (row ∷ rows) valid h =
    let parts = and_parts (length row == length columns) (rows_are_full columns rows) h in
    let full : length row ≡ length columns = grind (arith, nat_tests) in
    (sets_within columns q.sets (length row) full valid, all_reached columns q rows valid parts.1)

-- values that are set stay as many
length-values_set : (columns : List ColumnDef) (sets : List (List ℕ × Value)) (row : List Value) → length (values_set columns sets row) ≡ length row
length-values_set columns [] row = refl
length-values_set columns (s ∷ ss) row = length-values_set columns ss (set row (index_of columns s) s.1) ∙ length-set row (index_of columns s) s.1

length-updated : (columns : List ColumnDef) (q : UpdateQuery) (row : List Value) → length (values_updated columns q row) ≡ length row
length-updated columns q row = ⊎_elim
    (λ (t : meets columns q.condition row ≡ true). rw t (length-values_set columns q.sets row))
    (λ (t : meets columns q.condition row ≡ false). rw t)
    (cases_Bool (meets columns q.condition row))

updated_full : (columns : List ColumnDef) (q : UpdateQuery) (places : List Place) (rows : List (List ValueRef)) → rows_are_full columns rows ≡ true
    → list_all (λ vs. length vs == length columns) (map (λ row. values_updated columns q (row_values places row)) rows) ≡ true
updated_full columns q places [] h = refl
updated_full columns q places (row ∷ rows) h =
    let parts = and_parts (length row == length columns) (rows_are_full columns rows) h in
    let long : length (values_updated columns q (row_values places row)) ≡ length row = length-updated columns q (row_values places row) ∙ length-map row _ in
    and_from (length (values_updated columns q (row_values places row)) == length columns) _ (ap (λ n. n == length columns) long ∙ parts.0) (updated_full columns q places rows parts.1)

pub map_map : {X Y Z : Type 0} (f : Y → Z) (g : X → Y) (xs : List X) → map (λ x. f (g x)) xs ≡ map f (map g xs)
map_map f g [] = refl
map_map {Z = Z} f g (x ∷ xs) = ap (λ (l : List Z). f (g x) ∷ l) (map_map f g xs)

module _ (takes : TakenPlacesHoldTheirText) (gives : GivenBackTakesOne) (d : Database) (q : UpdateQuery) (c : Change) (well : WellFormed d) (s : Updated d q c) where
  -- the rows as they are stored
  abbrev rows_now : List (List ValueRef)
  rows_now = in_stored_order s.table.columns s.rows.0

  full_before : rows_are_full s.table.columns (rows_of s.table) ≡ true
  full_before = rows_full d q.table s.table well s.found

  set_moves : RowsUpdated takes gives d.pool.long s.table.columns q d.pool.places (others d q.table s.table) (rows_of s.table) (pool_of (no_change d)) s.rows
  set_moves = rows_updated_moves takes gives d.pool.long s.table.columns q d.pool.places (others d q.table s.table) (rows_of s.table) false s.rows
      (λ n. omega (arith, enough_before d q.table s.table s.found well.in_order s.sound well n, uses_before d q.table s.table s.found well.in_order n))
      (all_reached s.table.columns q (rows_of s.table) s.valid full_before) s.rows_are

  pub update_moved : Exchanged d q.table s.table s.found well.in_order rows_now s.rows.1.places
  update_moved = record {
    balance = λ n. omega (arith, set_moves.moved.balance n, total-sorted row_uses (row_cmp s.table.columns) s.rows.0 n);
    texts = set_moves.moved.texts;
    width = set_moves.moved.width;
  }

  full_now : rows_are_full s.table.columns rows_now ≡ true
  full_now =
      let full : List ValueRef → Bool = λ row. length row == length s.table.columns in
      all_sorted (row_cmp s.table.columns) full s.rows.0 (sym (long_as_values s.rows.1.places (length s.table.columns) s.rows.0)
      ∙ ap (list_all (λ vs. length vs == length s.table.columns)) set_moves.values ∙ updated_full s.table.columns q d.pool.places (rows_of s.table) full_before)

  pub update_sound : is_sound c.database ≡ true
  update_sound = subst (λ (c : Change). is_sound c.database ≡ true) s.stored (stored_sound d q.table s.table s.found well.in_order rows_now s.rows.1.places s.sound well update_moved)

  pub update_well : WellFormed c.database
  update_well = subst (λ (c : Change). WellFormed c.database) s.stored (stored_well d q.table s.table s.found well.in_order rows_now s.rows.1.places s.sound well update_moved full_now)

  pub update_exact : CountsAreExact d → CountsAreExact c.database
  update_exact exact = subst (λ (c : Change). CountsAreExact c.database) s.stored (stored_exact d q.table s.table s.found well.in_order rows_now s.rows.1.places s.sound well update_moved exact)

  pub values_now : map (row_values s.rows.1.places) s.rows.0 ≡ values_after s.table q (rows_at q.table d)
  values_now = set_moves.values ∙ map_map (values_updated s.table.columns q) (row_values d.pool.places) (rows_of s.table)
      ∙ ap (map (values_updated s.table.columns q)) (sym (rows_before d q.table s.table s.found well.in_order))

  -- the table has its rows after the update, and the others are as they were
  pub update_sets : IsPermutation (values_after s.table q (rows_at q.table d)) (rows_at q.table c.database) × OthersStay q.table d c.database
  update_sets = subst (λ (c : Change). IsPermutation (values_after s.table q (rows_at q.table d)) (rows_at q.table c.database) × OthersStay q.table d c.database) s.stored (
    rw (rows_after d q.table s.table s.found well.in_order rows_now s.rows.1.places, ← values_now) (values_sorted s.rows.1.places (row_cmp s.table.columns) s.rows.0),
    others_stay d q.table s.table s.found well.in_order rows_now s.rows.1.places update_moved.texts,
  )
