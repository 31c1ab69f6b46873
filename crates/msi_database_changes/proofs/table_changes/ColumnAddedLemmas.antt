-- A column that is added: its rows are inserted, and its table becomes longer. What each step keeps.
use Rattle.std.proofs.Common.{◌≡◌, ℕ, ◌+◌, Bool, true, false, not, ◌||◌, List, [], ◌∷◌, ◌++◌, length, map, Option, Some, None, Result, Ok, refl, sym, ap, subst, ◌∙◌, bytes_eq}
use Rattle.std.specs.List.{list_all, list_any}
use Rattle.std.proofs.lemmas.Bool.{and_parts, not-false, not-true, or_parts}
use Rattle.msi_base.specs.declared.errors.ErrorKind.{ErrorKind}
use Rattle.msi_base.specs.declared.errors.ErrorKind.TheVariants.{NotFound}
use Rattle.msi_base.specs.Lists.{has_pair}
use Rattle.msi_base.specs.Refusals.{Refusals, first_refusal, or_refused, unless_refused, ◌>>=◌}
use Rattle.msi_categories.specs.CategoryRules.{is_identifier}
use Rattle.msi_pool.specs.FirstFitLaws.{TakenPlacesHoldTheirText, GivenBackTakesOne}
use Rattle.msi_table_values.specs.declared.value.Value.{Value}
use Rattle.msi_table_values.specs.declared.value.Value.TheVariants.{Null}
use Rattle.msi_table_cells.specs.declared.cell.ValueRef.TheVariants as cell
use Rattle.msi_table_values.specs.Columns.{ColumnDef}
use Rattle.msi_table_values.specs.ValidValues.{is_valid_value}
use Rattle.msi_table_cells.specs.Fitting.{FitsColumn}
use Rattle.msi_table_cells.specs.TableCells.{TableCells}
use Rattle.msi_table_cells.proofs.StoredValuesLemmas.{fits_null}
use Rattle.msi_database_schema.specs.Description.{column_row, validation_row}
use Rattle.msi_database_schema.specs.Keys.{is_table_name}
use Rattle.msi_database_schema.specs.System.{columns_name, is_schema_table, is_system_table, tables_name, validation_name}
use Rattle.msi_database_schema.proofs.ColumnBackLemmas.{IsDescribable}
use Rattle.msi_database_schema.proofs.FaultLemmas.{texts_flip}
use Rattle.msi_database_changes.specs.Database.{Database, has_table, is_sound, table_at, values_of}
use Rattle.msi_database_changes.specs.Changes.{Change, missing_or, no_change}
use Rattle.msi_database_changes.specs.Create.{columns_are_named}
use Rattle.msi_database_changes.specs.Drop.{drop_refusals}
use Rattle.msi_database_changes.specs.Insert.{rows_inserted}
use Rattle.msi_database_changes.specs.AddColumn.{add_column_at_width, column_inserted, early_column_refusals, new_column_refusals, with_new_column}
use Rattle.msi_database_changes.specs.Laws.{KeysAreDistinct, rows_at}
use Rattle.msi_database_changes.proofs.steps.RefusedLemmas.{front_fails, none_holds, not_refused, same_Ok, value_there}
use Rattle.msi_database_changes.proofs.steps.StoredLemmas.{WellFormed}
use Rattle.msi_database_changes.proofs.steps.TracksLemmas.{Tracks}
use Rattle.msi_database_changes.proofs.steps.UntouchedTableLemmas.{LeavesUnlisted, Stays, rows_at_stay, stays_on, unlisted_by, unlisted_on, values_stay}
use Rattle.msi_database_changes.proofs.row_changes.InsertedLemmas.{Inserted, inserted_parts}
use Rattle.msi_database_changes.proofs.row_keys.KeysLemmas.{inserted_distinct}
use Rattle.msi_database_changes.proofs.describing.ShownTablesLemmas.{ok_first}
use Rattle.msi_database_changes.proofs.table_changes.AcceptedTableLemmas.{describable}
use Rattle.msi_database_changes.proofs.table_changes.CreateLemmas.{inserted_keeps}
use Rattle.msi_database_changes.proofs.table_changes.CreateRowsLemmas.{StepsOn, steps_on}
use Rattle.msi_database_changes.proofs.table_changes.CreateTracksLemmas.{tracked_from, tracks_inserted}
use Rattle.msi_database_changes.proofs.table_changes.DropLemmas.{Keeps, keeps_on}
use Rattle.msi_database_changes.proofs.table_changes.LongerTableLemmas.{longer_distinct, longer_elsewhere, longer_keeps, longer_values, tracks_longer}

-- THE STEPS

abbrev pub column_values : List ℕ → TableCells → ColumnDef → List (List Value)
column_values name t column = column_row name (length t.columns + 1, column) ∷ []

abbrev pub validation_values : List ℕ → ColumnDef → List (List Value)
validation_values name column = validation_row name column ∷ []

pub record ColumnAdded (d : Database) (name : List ℕ) (column : ColumnDef) (c : Change) : Type 0 where
  pub passed : first_refusal (early_column_refusals d name column) ≡ None
  pub table : TableCells
  pub at : table_at name d ≡ Some table
  pub first : Change
  pub second : Change
  pub in_columns : rows_inserted columns_name (column_values name table column) (no_change d) ≡ Ok first
  pub in_validation : rows_inserted validation_name (validation_values name column) first ≡ Ok second
  pub last : with_new_column name column table second ≡ c

pub column_parts : (d : Database) (name : List ℕ) (column : ColumnDef) (c : Change) → add_column_at_width d name column ≡ Ok c → ColumnAdded d name column c
column_parts d name column c e =
    let refusals = early_column_refusals d name column in
    let (c0, e0, f0) = ok_first (unless_refused refusals (no_change d)) (λ c. or_refused NotFound (table_at name d) >>= λ t. column_inserted name column t c) c e in
    let (none, same) = not_refused refusals (no_change d) c0 e0 in
    let (t, e1, f1) = ok_first (or_refused NotFound (table_at name d)) (λ t. column_inserted name column t c0) c f0 in
    let one = rows_inserted columns_name (column_values name t column) c0 in
    let two = one >>= rows_inserted validation_name (validation_values name column) in
    let (c2, e2, f2) = ok_first two (λ c. Ok (with_new_column name column t c)) c f1 in
    let (c1, e3, f3) = ok_first one (rows_inserted validation_name (validation_values name column)) c2 e2 in
    record { passed = none; table = t; at = value_there NotFound (table_at name d) t e1; first = c1; second = c2; in_columns = subst (λ (b : Change). rows_inserted columns_name (column_values name t column) b ≡ Ok c1) (sym same) e3; in_validation = f3; last = same_Ok (with_new_column name column t c2) c f2 }

-- WHAT WAS ACCEPTED

pub record Accepts (d : Database) (name : List ℕ) (t : TableCells) (column : ColumnDef) : Type 0 where
  pub sound : is_sound d ≡ true
  pub free : is_system_table name ≡ false
  pub named : is_table_name name ≡ true
  pub no_key : column.is_primary_key ≡ false
  pub takes_null : is_valid_value column Null ≡ true
  pub describable : IsDescribable column
  pub other_name : list_any (λ c. bytes_eq column.name c.name) t.columns ≡ false
  pub validated : has_table validation_name d ≡ true

abbrev of_table : Database → ColumnDef → TableCells → Refusals
of_table d column t = new_column_refusals t.columns column ++ (not (has_table validation_name d), NotFound) ∷ []

pub accepts : (d : Database) (name : List ℕ) (t : TableCells) (column : ColumnDef) → first_refusal (early_column_refusals d name column) ≡ None → table_at name d ≡ Some t → Accepts d name t column
accepts d name t column e at =
    let parts = front_fails (drop_refusals d name) (missing_or (table_at name d) (of_table d column)) e in
    let drops = none_holds (drop_refusals d name) parts.0 in
    let here : first_refusal (of_table d column t) ≡ None = ap (λ (o : Option TableCells). first_refusal (missing_or o (of_table d column))) (sym at) ∙ parts.1 in
    let fails = none_holds (of_table d column t) here in
    let first = or_parts column.is_primary_key (not (is_valid_value column Null)) fails.0 in
    let named = and_parts (list_all (λ c. is_identifier c.name) (column ∷ t.columns)) (not (has_pair (λ c d. bytes_eq c.name d.name) (column ∷ t.columns)))
    (not-false (columns_are_named (column ∷ t.columns)) fails.1.1.1.0) in
    record {
      sound = not-false (is_sound d) drops.0;
      free = drops.1.0;
      named = not-false (is_table_name name) drops.1.1.0;
      no_key = first.0;
      takes_null = not-false (is_valid_value column Null) first.1;
      describable = (describable (column ∷ t.columns) fails.1.1.1.1.0 fails.1.1.1.1.1.0 fails.1.1.1.1.1.1.0).0;
      other_name = (or_parts (list_any (λ c. bytes_eq column.name c.name) t.columns) (has_pair (λ c d. bytes_eq c.name d.name) t.columns) (not-true (has_pair (λ c d. bytes_eq c.name d.name) (column ∷ t.columns)) named.1)).0;
      validated = not-false (has_table validation_name d) fails.1.1.1.1.1.1.1.0;
    }

-- the name is none of a system table
pub record IsApart (name : List ℕ) : Type 0 where
  pub tables : bytes_eq name tables_name ≡ false
  pub columns : bytes_eq name columns_name ≡ false
  pub validation : bytes_eq name validation_name ≡ false

pub apart_from : (name : List ℕ) → is_system_table name ≡ false → IsApart name
apart_from name free =
    let r = or_parts (is_schema_table name) (bytes_eq name validation_name) free in
    let q = or_parts (bytes_eq name tables_name) (bytes_eq name columns_name) r.0 in
    record { tables = q.0; columns = q.1; validation = r.1 }

module _ (takes : TakenPlacesHoldTheirText) (gives : GivenBackTakesOne) (d : Database) (name : List ℕ) (column : ColumnDef) (c : Change) (well : WellFormed d) (r : ColumnAdded d name column c) where
  pub accepted : Accepts d name r.table column
  accepted = accepts d name r.table column r.passed r.at

  abbrev apart : IsApart name
  apart = apart_from name accepted.free

  abbrev c_values : List (List Value)
  c_values = column_values name r.table column

  abbrev v_values : List (List Value)
  v_values = validation_values name column

  pub first_inserted : Inserted (no_change d) columns_name c_values r.first
  first_inserted = inserted_parts (no_change d) columns_name c_values r.first r.in_columns

  pub second_inserted : Inserted r.first validation_name v_values r.second
  second_inserted = inserted_parts r.first validation_name v_values r.second r.in_validation

  pub first_step : StepsOn columns_name c_values (no_change d) r.first
  first_step = steps_on takes gives (no_change d) columns_name c_values r.first accepted.sound well first_inserted

  pub second_step : StepsOn validation_name v_values r.first r.second
  second_step = steps_on takes gives r.first validation_name v_values r.second first_step.sound first_step.well second_inserted

  -- the table is as it was until it becomes longer
  pub table_still : table_at name r.second.database ≡ Some r.table
  table_still = (second_step.leaves.others name (texts_flip validation_name name ∙ apart.validation)).at
      ∙ (first_step.leaves.others name (texts_flip columns_name name ∙ apart.columns)).at ∙ r.at

  pub column_keeps : Keeps d c.database
  column_keeps =
      let k₁ = inserted_keeps takes gives (no_change d) columns_name c_values r.first accepted.sound well first_inserted in
      let k₂ = inserted_keeps takes gives r.first validation_name v_values r.second k₁.sound k₁.well second_inserted in
      let k₃ = longer_keeps r.second.database name column r.table table_still apart.validation k₂.sound k₂.well in
      subst (λ (c : Change). Keeps d c.database) r.last (keeps_on _ _ _ k₁ (keeps_on _ _ _ k₂ k₃))

  pub column_distinct : KeysAreDistinct d → KeysAreDistinct c.database
  column_distinct before =
      let d₁ = inserted_distinct takes gives (no_change d) columns_name c_values r.first accepted.sound well first_inserted before in
      let d₂ = inserted_distinct takes gives r.first validation_name v_values r.second first_step.sound first_step.well second_inserted d₁ in
      subst (λ (c : Change). KeysAreDistinct c.database) r.last (longer_distinct r.second.database name column r.table table_still second_step.well accepted.no_key d₂)

  -- the rows of an unlisted `_Validation` stay
  pub column_unlisted : LeavesUnlisted d c.database
  column_unlisted =
      let u = unlisted_on d r.first.database r.second.database (unlisted_by columns_name _ _ first_step.leaves) (unlisted_by validation_name _ _ second_step.leaves) in
      subst (λ (c : Change). LeavesUnlisted d c.database) r.last (record { same = u.same; texts = u.texts })

  column_null : (long : Bool) → FitsColumn long column.coltype cell.Null
  column_null long = fits_null long column.coltype (and_parts column.is_nullable _ accepted.takes_null).1

  pub column_tracks : is_table_name columns_name ≡ true → is_table_name validation_name ≡ true → Tracks d c
  column_tracks c_named v_named =
      let t₁ = tracks_inserted takes gives d (no_change d) columns_name c_values r.first first_inserted c_named accepted.sound (tracked_from d) in
      let t₂ = tracks_inserted takes gives d r.first validation_name v_values r.second second_inserted v_named first_step.sound t₁ in
      subst (Tracks d) r.last (tracks_longer d r.second name column r.table table_still accepted.named (column_null r.second.database.pool.long) t₂)

  -- what tables have
  still : (other : List ℕ) → bytes_eq columns_name other ≡ false → bytes_eq validation_name other ≡ false → Stays d r.second.database other
  still other in_columns in_validation = stays_on d r.first.database r.second.database other (first_step.leaves.others other in_columns) (second_step.leaves.others other in_validation)

  pub column_nulls : rows_at name c.database ≡ map (λ row. row ++ Null ∷ []) (rows_at name d)
  column_nulls = ap (λ (x : Change). rows_at name x.database) (sym r.last) ∙ longer_values r.second.database name column r.table table_still
      ∙ ap (map (λ (row : List Value). row ++ Null ∷ [])) (rows_at_stay d r.second.database name (still name (texts_flip columns_name name ∙ apart.columns) (texts_flip validation_name name ∙ apart.validation)))

  pub column_others : (other : List ℕ) → bytes_eq name other ≡ false → bytes_eq columns_name other ≡ false → bytes_eq validation_name other ≡ false → values_of c.database other ≡ values_of d other
  column_others other own in_columns in_validation = ap (λ (x : Change). values_of x.database other) (sym r.last) ∙ longer_elsewhere r.second.database name column r.table table_still other own
      ∙ values_stay d r.second.database other (still other in_columns in_validation)
