-- An update of rows: its new values, and why it is refused.
use Rattle.std.proofs.Common.{◌≡◌, Bool, true, false, not, ◌&&◌, List, [], ◌∷◌, ◌++◌, map, Option, Some, None, Result, Ok, Err, refl, sym, ap, ◌∙◌, ⊎_elim}
use Rattle.std.specs.List.{list_all}
use Rattle.std.proofs.lemmas.Bool.{and_parts, cases_Bool}
use Rattle.msi_base.specs.declared.errors.ErrorKind.{ErrorKind}
use Rattle.msi_base.specs.declared.errors.ErrorKind.TheVariants.{AlreadyExists, InvalidInput}
use Rattle.msi_base.specs.Lists.{has_pair}
use Rattle.msi_pool.specs.Pool.{Place}
use Rattle.msi_base.specs.Refusals.{IsRefusal, Refusals, first_refusal, unless, unless_refused}
use Rattle.msi_query.specs.Selection.{condition_names, has_columns}
use Rattle.msi_table_values.specs.declared.value.Value.{Value}
use Rattle.msi_table_cells.specs.declared.cell.ValueRef.{ValueRef}
use Rattle.msi_table_values.specs.Columns.{ColumnDef}
use Rattle.msi_table_cells.specs.CellValues.{row_values}
use Rattle.msi_query.specs.Queries.{UpdateQuery}
use Rattle.msi_database_changes.specs.Insert.{table_with}
use Rattle.msi_table_cells.specs.KeyOrder.{key_of, same_key}
use Rattle.msi_database_changes.specs.RowUpdates.{RowUpdateDef, row_set}
use Rattle.msi_database_changes.specs.Update.{keys_collide, set_is_valid, set_refusals, sets_key, values_after}
use Rattle.msi_database_changes.proofs.row_keys.KeySetLemmas.{refused}
use Rattle.msi_database_changes.proofs.steps.RefusedLemmas.{first_refused}

-- the first item that fails a test refuses
module _ {X : Type 0} (p : X → Bool) (kind : ErrorKind) where
  abbrev faults : List X → Refusals
  faults xs = map (λ x. (not (p x), kind)) xs

  one_fails : (xs : List X) (others : Refusals) → list_all p xs ≡ false → first_refusal (faults xs ++ others) ≡ Some kind
  one_fails [] others e = cc
  one_fails (x ∷ xs) others e = ⊎_elim
      (λ (t : p x ≡ true). let later : list_all p xs ≡ false = ap (λ b. b && list_all p xs) (sym t) ∙ e in rw t (one_fails xs others later))
      (λ (t : p x ≡ false). rw t refl)
      (cases_Bool (p x))

  all_pass : (xs : List X) (others : Refusals) → list_all p xs ≡ true → first_refusal (faults xs ++ others) ≡ first_refusal others
  all_pass [] others e = refl
  all_pass (x ∷ xs) others e = let parts = and_parts (p x) (list_all p xs) e in rw parts.0 (all_pass xs others parts.1)

-- why new values are refused
module _ (columns : List ColumnDef) (q : UpdateQuery) where
  abbrev pub sets_valid : Bool
  sets_valid = list_all (set_is_valid columns) q.sets

  abbrev pub names_known : Bool
  names_known = has_columns columns (condition_names q.condition)

  abbrev late : Refusals
  late = (not names_known, InvalidInput) ∷ []

  pub set_refused : sets_valid ≡ false → ◌≡◌ {A = Result (Unit {0}) ErrorKind} (Err InvalidInput) (unless_refused (set_refusals columns q) tt)
  set_refused e = sym (first_refused (set_refusals columns q) tt InvalidInput (one_fails (set_is_valid columns) InvalidInput q.sets late e))

  pub condition_refused : sets_valid ≡ true → names_known ≡ false → ◌≡◌ {A = Result (Unit {0}) ErrorKind} (Err InvalidInput) (unless_refused (set_refusals columns q) tt)
  condition_refused e k = sym (first_refused (set_refusals columns q) tt InvalidInput (all_pass (set_is_valid columns) InvalidInput q.sets late e ∙ rw k refl))

  pub sets_accepted : sets_valid ≡ true → names_known ≡ true → ◌≡◌ {A = Result (Unit {0}) ErrorKind} (Ok tt) (unless_refused (set_refusals columns q) tt)
  sets_accepted e k =
      let none : first_refusal (set_refusals columns q) ≡ None = all_pass (set_is_valid columns) InvalidInput q.sets late e ∙ rw k refl in
      sym (ap (λ (o : Option ErrorKind). unless {A = Unit {0}} o tt) none)

-- why an update is refused whose new values aren't
module _ (places : List Place) (columns : List ColumnDef) (rows : List (List ValueRef)) (q : UpdateQuery) where
  abbrev pub share_key : Bool
  share_key = has_pair same_key (map (key_of columns) (values_after (table_with columns rows) q (map (row_values places) rows)))

  abbrev pub collide : Bool
  collide = keys_collide places (table_with columns rows) q

  pub collision_refused : sets_key columns q.sets ≡ true → share_key ≡ true → IsRefusal {A = Unit {0}} (unless_refused ((collide, AlreadyExists) ∷ []) tt) AlreadyExists
  collision_refused s h = refused ((collide, AlreadyExists) ∷ []) AlreadyExists (rw (s, h) refl)

  pub no_key_set : sets_key columns q.sets ≡ false → collide ≡ false
  no_key_set s = rw s refl

  pub no_collision : sets_key columns q.sets ≡ true → share_key ≡ false → collide ≡ false
  no_collision s h = rw (s, h) refl

-- the keys after an update, row by row
pub keys_are : (u : RowUpdateDef) (places : List Place) (rows : List (List ValueRef))
    → map (λ row. key_of u.columns (row_set u (row_values places row))) rows ≡ map (key_of u.columns) (map (row_set u) (map (row_values places) rows))
keys_are u places [] = refl
keys_are u places (row ∷ rows) = ap (λ (keys : List (List Value)). key_of u.columns (row_set u (row_values places row)) ∷ keys) (keys_are u places rows)

pub same_under_not : (a b : Bool) → not a ≡ not b → a ≡ b
same_under_not true true e = refl
same_under_not true false e = sym e
same_under_not false true e = sym e
same_under_not false false e = refl
