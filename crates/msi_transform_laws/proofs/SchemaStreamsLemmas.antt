-- What records of `_Tables` and `_Columns` say of the stream of a row: that it goes with the table.
use Rattle.std.proofs.Common.{◌≡◌, ℕ, Bool, true, false, not, List, [], ◌∷◌, ◌++◌, map, Option, Some, None, is_some, Result, Ok, refl, sym, ap, subst, ◌∙◌}
use Rattle.std.specs.Prelude.{bytes_eq, if◌then◌else◌}
use Rattle.std.specs.Cmp.Lexicographic.{bytes_decides}
use Rattle.std.specs.List.{AllByRecursion, flat_map}
use Rattle.std.specs.Option.{option_map_or}
use Rattle.msi_base.specs.declared.errors.ErrorKind.{ErrorKind}
use Rattle.msi_base.specs.declared.errors.ErrorKind.TheVariants.{InvalidData, NotFound}
use Rattle.msi_base.specs.Refusals.{or_refused, unless_refused}
use Rattle.msi_base.proofs.BoolLemmas.{by_test}
use Rattle.msi_base.proofs.OptionLemmas.{guard_held, none_is, some_is}
use Rattle.msi_table_cells.specs.CellValues.{row_values}
use Rattle.msi_table_cells.specs.KeyOrder.{key_of}
use Rattle.msi_table_values.specs.declared.value.Value.{Value}
use Rattle.msi_table_values.specs.declared.value.Value.TheVariants.{Str}
use Rattle.msi_table_values.specs.Columns.{ColumnDef}
use Rattle.msi_database_schema.specs.Keys.{table_key}
use Rattle.msi_database_schema.specs.Schema.{value_at}
use Rattle.msi_database_schema.specs.System.{columns_columns, columns_name, tables_columns, tables_name}
use Rattle.msi_database_changes.specs.declared.storing.Stored.{Stored}
use Rattle.msi_database_changes.proofs.describing.ShownTablesLemmas.{ok_first}
use Rattle.msi_database_changes.proofs.steps.RefusedLemmas.{not_refused, same_Ok, value_there}
use Rattle.msi_database_storage.specs.Storing.{stream_gone}
use Rattle.msi_transform_records.specs.Records.{records_in}
use Rattle.msi_transform_records.specs.declared.action.Action.{Action}
use Rattle.msi_transform_records.specs.declared.action.Action.TheVariants.{Add, Remove, Change}
use Rattle.msi_transform_records.specs.declared.records.Record.{Record}
use Rattle.msi_transform_records.specs.declared.shape.Shape.{Shape}
use Rattle.msi_transform.specs.Transforms.{record_key, records_for, shapes_of}
use Rattle.msi_transform_rows.specs.RecordRefusals.{Refusal, nowhere, ◌>>=◌}
use Rattle.msi_transform_rows.specs.RowStreams.{has_streams, row_stream, row_stream_gone}
use Rattle.msi_transform_rows.specs.TableRecords.{all_applied, number_of}
use Rattle.msi_transform_schema.specs.SchemaApplying.{complete_refusals, records_applied, schema_begun, schema_changed, schema_refusals}
use Rattle.msi_transform_schema.specs.SchemaChanges.{SchemaChange, SchemaInHand, TableInHand, column_record_applied, columns_of_package, is_gone, is_name_to_list, listing_applied, name_to_list, rows_of_package, streams_of_rows, table_in_hand, table_record_applied, with_table_gone}
use Rattle.msi_transform_schema.specs.declared.schema.Standing.{Standing}
use Rattle.msi_transform_schema.specs.declared.schema.Standing.TheVariants as stands
use Rattle.msi_transform_applying.proofs.OtherStreamsLemmas.{accepted, passed}
use Rattle.msi_transform_making.specs.Making.{listing_record}
use Rattle.msi_transform_laws.specs.RecordsRead.{as_values}
use Rattle.msi_transform_laws.specs.RowsApplied.{SaySame}
use Rattle.msi_transform_laws.proofs.HeardStreamsLemmas.{Heard, heard, heard_joined, heard_once, later}
use Rattle.msi_transform_laws.proofs.RecordStreamsLemmas.{IsOf, Quiet, of_later, quiet_later}
use Rattle.msi_transform_laws.proofs.StreamsStayLemmas.{StreamsStay, come_by, describing_by}
use Rattle.msi_transform_laws.proofs.SchemaAppliedLemmas.{same_first}
use Rattle.msi_transform_laws.proofs.TablesRemovedLemmas.{key_is}
use Rattle.msi_transform_laws.proofs.TurnedStreamsLemmas.{all_gone_of, all_gone_quiet, records_keep, same_answer}

not_remove : {P : Type 0} (k : ℕ) → ◌≡◌ {A = Action} (Add k) Remove → P
not_remove k e = cc

-- RECORDS THAT REMOVE TABLES

module _ (change : SchemaChange) (wanted : Option (List ℕ)) (table : List ℕ) (key : List Value) (n : List ℕ) (at : row_stream table key ≡ Some n) (of_no_table : (name : List ℕ) → table_key name ≡ n → ⊥) where
  abbrev own_columns : List ℕ → List ColumnDef
  own_columns name = columns_of_package change.database name stands.Kept

  abbrev package_rows : List ℕ → List (List Value)
  package_rows name = map (row_values change.database.pool.places) (rows_of_package change.database name stands.Kept)

  abbrev AreOthers : List ℕ → List ColumnDef → List (List Value) → Type 0
  AreOthers name columns rows = AllByRecursion (λ (row : List Value). row_stream name (key_of columns row) ≡ Some n → ⊥) rows

  -- none of a table's rows has the stream of this name, where that is wanted
  abbrev pub HasNot : List ℕ → Type 0
  HasNot name = has_streams (own_columns name) ≡ true → is_some wanted ≡ true → AreOthers name (own_columns name) (package_rows name)

  abbrev Said : Heard → Type 0
  Said h = IsOf change.by n h × Quiet change.by wanted n h

  abbrev pub SaysNothing : SchemaInHand → Type 0
  SaysNothing s = Said (heard n s.streams)

  rows_said : (name : List ℕ) (columns : List ColumnDef) (rows : List (List Value)) (b : Bool) → has_streams columns ≡ b → (has_streams columns ≡ true → is_some wanted ≡ true → AreOthers name columns rows)
      → Said (heard n (if b then flat_map (λ (row : List Value). row_stream_gone name (key_of columns row)) rows else []))
  rows_said name columns rows false has none = ((λ bytes h. none_is h), (λ w. refl))
  rows_said name columns rows true has none = (all_gone_of wanted table key n at name (key_of columns) change.by rows, (λ w. all_gone_quiet wanted table key n at name (key_of columns) rows (none has w)))

  by_standing : (name : List ℕ) → HasNot name → (standing : Standing)
      → Said (heard n (streams_of_rows name (columns_of_package change.database name standing) (map (row_values change.database.pool.places) (rows_of_package change.database name standing))))
  by_standing name none stands.Gone = ((λ bytes h. none_is h), (λ w. refl))
  by_standing name none stands.Added = ((λ bytes h. none_is h), (λ w. refl))
  by_standing name none stands.Kept = rows_said name (own_columns name) (package_rows name) (has_streams (own_columns name)) refl none
  by_standing name none (stands.Found next) = rows_said name (own_columns name) (package_rows name) (has_streams (own_columns name)) refl none

  said_later : (x h : Heard) → Said x → Said h → Said (later x h)
  said_later x h f g = (of_later change.by n x h f.0 g.0, quiet_later change.by wanted n x h f.1 g.1)

  unheard_table : (name : List ℕ) → heard_once n (stream_gone name) ≡ None
  unheard_table name = by_test (bytes_eq (table_key name) n)
      (λ t. absurd (of_no_table name ((bytes_decides (table_key name) n).0 t)))
      (λ t. rw t refl)

  gone_says : (s : SchemaInHand) (name : List ℕ) (t : TableInHand) → HasNot name → SaysNothing s → SaysNothing (with_table_gone change.database name t s)
  gone_says s name t none h =
      let xs = streams_of_rows name (columns_of_package change.database name t.standing) (map (row_values change.database.pool.places) (rows_of_package change.database name t.standing)) in
      let first : Said (later (heard n xs) (heard_once n (stream_gone name))) =
      said_later (heard n xs) (heard_once n (stream_gone name)) (by_standing name none t.standing)
      (subst Said (sym (unheard_table name)) ((λ bytes e. none_is e), (λ w. refl))) in
      subst Said (sym (heard_joined n s.streams (stream_gone name ∷ xs))) (said_later (heard n (stream_gone name ∷ xs)) (heard n s.streams) first h)

  gone_by : (b : Bool) (s t : SchemaInHand) (name : List ℕ) (in_hand : TableInHand)
      → (if b then unless_refused ((not change.passing.removed_table_missing, NotFound) ∷ []) s else Ok (with_table_gone change.database name in_hand s)) ≡ Ok t → HasNot name → SaysNothing s → SaysNothing t
  gone_by true s t name in_hand is none h = subst SaysNothing (not_refused ((not change.passing.removed_table_missing, NotFound) ∷ []) s t is).1 h
  gone_by false s t name in_hand is none h = subst SaysNothing (same_Ok (with_table_gone change.database name in_hand s) t is) (gone_says s name in_hand none h)

  says_still : (s t : SchemaInHand) → StreamsStay s t → SaysNothing s → SaysNothing t
  says_still s t same h = subst (λ (xs : List Stored). Said (heard n xs)) same h

  listing_by : (s t : SchemaInHand) (name : List ℕ) (action : Action) → (action ≡ Remove → HasNot name) → listing_applied change s action name ≡ Ok t → SaysNothing s → SaysNothing t
  listing_by s t name Remove none is h = let in_hand = table_in_hand change.database s.tables name in gone_by (is_gone in_hand.standing) s t name in_hand is (none refl) h
  listing_by s t name (Add k) none is h = let in_hand = table_in_hand change.database s.tables name in says_still s t (come_by change (is_gone in_hand.standing) s t name in_hand is) h
  listing_by s t name (Change m) none is h = absurd cc

  -- a record of `_Tables` that removes a table removes one without this stream
  abbrev pub RemovesOther : Record → Type 0
  RemovesOther r = (name : List ℕ) → r.action ≡ Remove → name_to_list (value_at 0 (record_key change.by (shapes_of tables_columns) r)) ≡ Some name → HasNot name

  table_says : (s : SchemaInHand) (r : Record) (t : SchemaInHand) → RemovesOther r → table_record_applied change (shapes_of tables_columns) s r ≡ Ok t → SaysNothing s → SaysNothing t
  table_says s r t removes is h =
      let told = name_to_list (value_at 0 (record_key change.by (shapes_of tables_columns) r)) in
      let (name, found, listed) = ok_first (or_refused InvalidData told) (listing_applied change s r.action) t is in
      listing_by s t name r.action (λ e. removes name e (value_there InvalidData told name found)) listed h

  column_says : (s : SchemaInHand) (r : Record) (t : SchemaInHand) → Unit {0} → column_record_applied change (shapes_of columns_columns) s r ≡ Ok t → SaysNothing s → SaysNothing t
  column_says s r t _ is h = says_still s t (describing_by change (shapes_of columns_columns) s t r r.action is) h

  all_any : (rs : List Record) → AllByRecursion (λ (r : Record). Unit {0}) rs
  all_any [] = tt
  all_any (r ∷ rs) = (tt, all_any rs)

  -- all records of a list
  list_says : (K : Record → Type 0) (name : List ℕ) (columns : List ColumnDef) (step : List Shape → SchemaInHand → Record → Result SchemaInHand ErrorKind)
      → ((s : SchemaInHand) (r : Record) (t : SchemaInHand) → K r → step (shapes_of columns) s r ≡ Ok t → SaysNothing s → SaysNothing t)
      → (o : Option (List ℕ)) → ((bytes : List ℕ) (rs : List Record) → o ≡ Some bytes → records_in (shapes_of columns) change.by.pool bytes ≡ Some rs → AllByRecursion K rs) → (s t : SchemaInHand)
      → option_map_or (λ bytes. all_applied (number_of change.by name) change.by (shapes_of columns) bytes (step (shapes_of columns)) s) o (Ok s) ≡ Ok t → SaysNothing s → SaysNothing t
  list_says K name columns step each None all s t is h = subst SaysNothing (same_answer s t is) h
  list_says K name columns step each (Some bytes) all s t is h =
      records_keep SaysNothing K (number_of change.by name) (step (shapes_of columns)) each change.by (shapes_of columns) bytes s t (λ rs found. all bytes rs refl found) is h

  abbrev of_tables : SchemaInHand → Result SchemaInHand Refusal
  of_tables = records_applied change.by tables_name tables_columns (table_record_applied change)

  abbrev of_columns : SchemaInHand → Result SchemaInHand Refusal
  of_columns = records_applied change.by columns_name columns_columns (column_record_applied change)

  pub schema_says : (t : SchemaInHand)
      → ((bytes : List ℕ) (rs : List Record) → records_for tables_name change.by ≡ Some bytes → records_in (shapes_of tables_columns) change.by.pool bytes ≡ Some rs → AllByRecursion RemovesOther rs)
      → schema_changed change ≡ Ok t → SaysNothing t
  schema_says t all is =
      let begun = nowhere (unless_refused (schema_refusals change.database) (schema_begun change.database)) in
      let (third, ran, complete) = passed (begun >>= of_tables >>= of_columns) (λ (s : SchemaInHand). nowhere (unless_refused (complete_refusals s) s)) t is in
      let (second, listed, described) = passed (begun >>= of_tables) of_columns third ran in
      let (first, started, tables) = passed begun of_tables second listed in
      let none : SaysNothing first = subst SaysNothing (accepted (schema_refusals change.database) (schema_begun change.database) first started) ((λ bytes e. none_is e), (λ w. refl)) in
      let one : SaysNothing second = list_says RemovesOther tables_name tables_columns (table_record_applied change) table_says (records_for tables_name change.by) all first second tables none in
      let two : SaysNothing third = list_says (λ (r : Record). Unit {0}) columns_name columns_columns (column_record_applied change) column_says (records_for columns_name change.by) (λ bytes rs at found. all_any rs) second third described one in
      subst SaysNothing (accepted (complete_refusals third) third t complete) two

  -- RECORDS OF A TRANSFORM THAT IS MADE

  adding_remove_none : (names : List (List ℕ)) (stored : List Record) → SaySame change.by (map (listing_record (Add 1)) names) stored → AllByRecursion RemovesOther stored
  adding_remove_none [] [] says = tt
  adding_remove_none [] (q ∷ qs) says = absurd cc
  adding_remove_none (m ∷ ms) [] says = absurd cc
  adding_remove_none (m ∷ ms) (q ∷ qs) says =
      let parts = same_first change.by (listing_record (Add 1) m) (map (listing_record (Add 1)) ms) q qs says in
      ((λ name removes found. not_remove 1 (sym (ap (λ (a : Action × List Value). a.0) parts.0) ∙ removes)), adding_remove_none ms qs parts.1)

  removed_other : (q : Record) (m : List ℕ) → as_values change.by q ≡ (Remove, Str m ∷ []) → HasNot m → RemovesOther q
  removed_other q m says none name removes found =
      let named = guard_held (is_name_to_list m) (Some m) name (ap (λ (k : List Value). name_to_list (value_at 0 k)) (sym (key_is change q m says)) ∙ found) in
      subst HasNot (some_is m name named.1) none

  pub removing_others : (names come : List (List ℕ)) (stored : List Record) → SaySame change.by (map (listing_record Remove) names ++ map (listing_record (Add 1)) come) stored → AllByRecursion HasNot names
      → AllByRecursion RemovesOther stored
  removing_others [] come stored says none = adding_remove_none come stored says
  removing_others (m ∷ ms) come [] says none = absurd cc
  removing_others (m ∷ ms) come (q ∷ qs) says none =
      let parts = same_first change.by (listing_record Remove m) (map (listing_record Remove) ms ++ map (listing_record (Add 1)) come) q qs says in
      (removed_other q m parts.0 none.0, removing_others ms come qs parts.1 none.1)
