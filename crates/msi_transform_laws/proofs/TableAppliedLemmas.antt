-- The records of a table of a transform that is made, applied to the rows that the old package has of it.
use Rattle.std.proofs.Common.{◌≡◌, ℕ, suc, ◌-◌, ◌≤◌, Bool, true, false, not, ◌&&◌, ◌||◌, List, [], ◌∷◌, ◌++◌, length, map, filter, fold, replicate, zip, refl, sym, ap, subst, ◌∙◌}
use Rattle.std.specs.Prelude.{Option, Some, None, Ok, Err, option_and_then, option_map, if◌then◌else◌}
use Rattle.std.specs.FinMap.{find, put}
use Rattle.std.specs.List.{AllByRecursion, list_any}
use Rattle.std.specs.Option.{option_map_or}
use Rattle.msi_base.specs.declared.errors.ErrorKind.TheVariants.{InvalidData}
use Rattle.msi_base.proofs.BoolLemmas.{by_test, yes_is_no}
use Rattle.msi_base.proofs.OptionLemmas.{none_is, some_is}
use Rattle.msi_pool.specs.FirstFitLaws.{TakenPlacesHoldTheirText, GivenBackTakesOne}
use Rattle.msi_table_values.specs.declared.value.Value.TheVariants.{Null}
use Rattle.msi_table_values.specs.Columns.{ColumnDef}
use Rattle.msi_database_schema.specs.System.{columns_name, is_schema_table, tables_name}
use Rattle.msi_transform_records.specs.declared.action.Action.{Action}
use Rattle.msi_transform_records.specs.declared.action.Action.TheVariants.{Add, Remove, Change}
use Rattle.msi_transform_records.specs.declared.records.Record.{Record}
use Rattle.msi_transform_records.specs.declared.shape.Shape.{Shape}
use Rattle.msi_transform_records.specs.Actions.{told}
use Rattle.msi_transform_records.specs.Records.{leading, records_in}
use Rattle.msi_transform.specs.Transforms.{TransformDef, records_for, shapes_of}
use Rattle.msi_transform.specs.declared.conditions.ErrorConditions.{ErrorConditions}
use Rattle.msi_transform_rows.specs.KeyOfRows.{key_cmp}
use Rattle.msi_transform_rows.specs.RecordRefusals.{at_record, in_turn_from, ◌>>=◌}
use Rattle.msi_transform_rows.specs.RowChanges.{record_applied}
use Rattle.msi_transform_rows.specs.RowStreams.{is_of_streams}
use Rattle.msi_transform_rows.specs.TableRecords.{all_applied}
use Rattle.msi_transform_making.specs.Making.{Pair, ToldRecord, ToldRow, ToldRows, ToldTable, columns_in_table, is_told, told_names, told_rows, told_table, told_tables}
use Rattle.msi_transform_laws.specs.CanFollow.{CanFollowInTurn}
use Rattle.msi_transform_laws.specs.CarriedOut.{IsTellable, carried_out, done_by, is_change_of_streams, is_key_of_streams, is_of_key, record_done, rows_before, with_value}
use Rattle.msi_transform_laws.specs.RecordsRead.{action_and_values, as_values, values_read}
use Rattle.msi_transform_laws.specs.RowsApplied.{HaveValuesOf, IsInTransform, SaySame, is_brought}
use Rattle.msi_transform_laws.specs.StreamsBrought.{HasItsStream}
use Rattle.msi_transform_laws.specs.TableApplied.{CanHaveRecords, GivesNewRows, MadeRecordsGiveNewRows, table_change}
use Rattle.msi_transform_laws.proofs.AppliedRecordsLemmas.{records_are_applied}
use Rattle.msi_transform_laws.proofs.BroughtStreamsLemmas.{made_streams_are_brought}
use Rattle.msi_transform_laws.proofs.MadeRecordsLemmas.{lists, made_records_are_read}
use Rattle.msi_transform_laws.proofs.RecordsInTransformLemmas.{records_in_transform}
use Rattle.msi_transform_laws.proofs.TableFollowLemmas.{records_can_follow}
use Rattle.msi_transform_laws.proofs.TableRecordsLemmas.{records_give_new_table}

-- ONLY THE TYPES OF COLUMNS MATTER, AND WHICH ARE OF THE KEY

many_shapes : (columns : List ColumnDef) → length (shapes_of columns) ≡ length columns
many_shapes [] = refl
many_shapes (c ∷ columns) = ap suc (many_shapes columns)

abbrev pub is_key_shape : Shape → Bool
is_key_shape s = s.is_key && is_of_streams s.coltype

pub plain_shapes : (columns : List ColumnDef) → list_any is_key_of_streams columns ≡ list_any is_key_shape (shapes_of columns)
plain_shapes [] = refl
plain_shapes (c ∷ columns) = ap (λ b. (c.is_primary_key && is_of_streams c.coltype) || b) (plain_shapes columns)

module _ (one other : List ColumnDef) (same : shapes_of one ≡ shapes_of other) where
  as_many : length one ≡ length other
  as_many = sym (many_shapes one) ∙ ap (λ (l : List Shape). length l) same ∙ many_shapes other

  abbrev changed_by : List Shape → ToldRecord → ToldRow → ToldRow
  changed_by shapes r row = record {
    values = fold with_value row.values (filter (λ e. not (is_of_key e)) (zip (told shapes r.action) r.values));
    stream = if list_any is_change_of_streams (filter (λ e. not (is_of_key e)) (zip (told shapes r.action) r.values)) then r.stream else row.stream;
  }

  abbrev added_by : ℕ → ToldRecord → ToldRow
  added_by n r = record { values = r.values ++ replicate (n - length r.values) Null; stream = r.stream }

  done_alike : (rows : ToldRows) (r : ToldRecord) (a : Action) → done_by one rows r a ≡ done_by other rows r a
  done_alike rows r Remove = refl
  done_alike rows r (Add k) = λ i. put key_cmp r.key (added_by (as_many i) r) rows
  done_alike rows r (Change mask) = λ i. option_map_or (λ row. put key_cmp r.key (changed_by (same i) r row) rows) (find key_cmp r.key rows) rows

  carried_alike : (rows : ToldRows) (rs : List ToldRecord) → carried_out one rows rs ≡ carried_out other rows rs
  carried_alike rows [] = refl
  carried_alike rows (r ∷ rs) = carried_alike (record_done one rows r) rs ∙ ap (λ (l : ToldRows). carried_out other l rs) (done_alike rows r r.action)

  follow_alike : (rows : ToldRows) (rs : List ToldRecord) → CanFollowInTurn other rows rs → CanFollowInTurn one rows rs
  follow_alike rows [] h = tt
  follow_alike rows (r ∷ rs) h =
      (h.0, follow_alike (record_done one rows r) rs (subst (λ (l : ToldRows). CanFollowInTurn other l rs) (sym (done_alike rows r r.action)) h.1))

  module _ (name : List ℕ) (t : TransformDef) (passing : ErrorConditions) where
    in_alike : (rs : List ToldRecord) → AllByRecursion (IsInTransform (table_change name other t passing)) rs → AllByRecursion (IsInTransform (table_change name one t passing)) rs
    in_alike [] h = tt
    in_alike (r ∷ rs) h = (
      record {
        many = h.0.many ∙ ap (λ (s : List Shape). length (told s r.action)) (sym same);
        key = ap (λ (s : List Shape). map (λ e. e.1) (filter is_of_key (zip (told s r.action) r.values))) same ∙ h.0.key;
        brings = λ b. h.0.brings (ap (λ (s : List Shape). list_any is_brought (zip (told s r.action) r.values)) (sym same) ∙ b);
        without = λ b. h.0.without (ap (λ (s : List Shape). list_any is_brought (zip (told s r.action) r.values)) (sym same) ∙ b);
      },
      in_alike rs h.1,
    )

-- WHAT IS READ OF A TABLE

module _ (t : TransformDef) (table : ToldTable) where
  abbrev pub Read : Type 0
  Read = (bytes : List ℕ) × (records_for table.name t ≡ Some bytes) × (stored : List Record) × (records_in table.shapes t.pool bytes ≡ Some stored) × SaySame t table.records stored

  pub read_of : (o : Option (List ℕ)) → records_for table.name t ≡ o → option_map (map (as_values t)) (option_and_then (records_in table.shapes t.pool) o) ≡ Some (map action_and_values table.records) → Read
  read_of None at is = none_is is
  read_of (Some bytes) at is =
      elim (records_in table.shapes t.pool bytes) as (λ o. records_in table.shapes t.pool bytes ≡ o → option_map (map (as_values t)) o ≡ Some (map action_and_values table.records) → Read) [
        | None ↦ λ none is. none_is is
        | Some stored ↦ λ some is. (bytes, at, stored, some, some_is (map (as_values t) stored) (map action_and_values table.records) is)
      ] refl is

-- A TABLE

module _ (takes : TakenPlacesHoldTheirText) (gives : GivenBackTakesOne) (p : Pair) (t : TransformDef) (name : List ℕ) where
  abbrev table : ToldTable
  table = told_table p.old p.new name

  table_gives : IsTellable p.old p.new name → length (told_rows p.new name 0) ≤ 65536 → Read t table → AllByRecursion (HasItsStream t name) table.records → GivesNewRows p t table
  table_gives tellable few read streams columns passing others before number same alike counts fits =
      let (bytes, at, stored, records, says) = read in
      let columns_now = columns_in_table p.new name in
      let change = table_change name columns t passing in
      let are = in_alike columns columns_now same name t passing table.records (records_in_transform p.old p.new name (table_change name columns_now t passing) refl tellable streams) in
      let plain : list_any is_key_of_streams columns ≡ false = plain_shapes columns ∙ ap (list_any is_key_shape) same ∙ sym (plain_shapes columns_now) ∙ tellable.key in
      let follow = follow_alike columns columns_now same (rows_before p.old p.new name) table.records (records_can_follow p.old p.new name tellable few) in
      let all = records_are_applied takes gives p.old.streams change others before (rows_before p.old p.new name) table.records stored number 0 says are plain alike follow counts fits in
      let gives_rows : carried_out columns (rows_before p.old p.new name) table.records ≡ told_rows p.new name 0 =
      carried_alike columns columns_now same (rows_before p.old p.new name) table.records ∙ records_give_new_table p.old p.new name tellable in
      let result : all_applied number t (shapes_of columns) bytes (record_applied change) before ≡ Ok all.0 =
      ap (λ (s : List Shape). option_map_or Ok (records_in s t.pool bytes) (at_record number (length (leading (shapes_of columns) t.pool bytes).0) (Err InvalidData)) >>= λ records. in_turn_from number (record_applied change) 0 before records) same
      ∙ ap (λ (o : Option (List Record)). option_map_or Ok o (at_record number (length (leading (shapes_of columns) t.pool bytes).0) (Err InvalidData)) >>= λ records. in_turn_from number (record_applied change) 0 before records) records
      ∙ all.1 in (
        bytes,
        at,
        all.0,
        result,
        record {
          rows = subst (HaveValuesOf p.old.streams change all.0.pool.places all.0.rows) gives_rows all.2.rows;
          counted = all.2.counted;
          kept = all.2.kept;
          longer = all.2.longer;
        },
      )

-- ALL TABLES

all_passing : {X : Type 0} (P : X → Type 0) (q : X → Bool) (xs : List X) → AllByRecursion P xs → AllByRecursion P (filter q xs)
all_passing P q [] h = tt
all_passing P q (x ∷ xs) h = by_test (q x) (λ t. rw t (h.0, all_passing P q xs h.1)) (λ t. rw t (all_passing P q xs h.1))

module _ (p : Pair) where
  -- a table that isn't one of the two that list tables is one of the new package's
  abbrev pub IsNew : ToldTable → Type 0
  IsNew table = is_schema_table table.name ≡ false → (table ≡ told_table p.old p.new table.name) × IsTellable p.old p.new table.name × (length (told_rows p.new table.name 0) ≤ 65536)

  all_new : (names : List (List ℕ)) → AllByRecursion (IsTellable p.old p.new) names → AllByRecursion (λ name. length (told_rows p.new name 0) ≤ 65536) names → AllByRecursion IsNew (map (told_table p.old p.new) names)
  all_new [] h few = tt
  all_new (n ∷ ns) h few = ((λ _. (refl, h.0, few.0)), all_new ns h.1 few.1)

  schema_tables : (is_schema_table tables_name ≡ true) × (is_schema_table columns_name ≡ true)
  schema_tables = (refl, refl)

  pub tables_new : CanHaveRecords p → AllByRecursion IsNew (told_tables p.old p.new)
  tables_new can = all_passing IsNew is_told (lists p.old p.new ++ map (told_table p.old p.new) (told_names p.new))
      ((λ s. yes_is_no (is_schema_table tables_name) schema_tables.0 s), ((λ s. yes_is_no (is_schema_table columns_name) schema_tables.1 s), all_new (told_names p.new) can.tellable can.few))

module _ (takes : TakenPlacesHoldTheirText) (gives : GivenBackTakesOne) (p : Pair) (t : TransformDef) where
  all_give : (tables : List ToldTable) → AllByRecursion (IsNew p) tables → AllByRecursion (λ table. values_read t table ≡ Some (map action_and_values table.records)) tables
      → AllByRecursion (λ (table : ToldTable). AllByRecursion (HasItsStream t table.name) table.records) tables
      → AllByRecursion (λ (table : ToldTable). is_schema_table table.name ≡ false → GivesNewRows p t table) tables
  all_give [] new read streams = tt
  all_give (table ∷ tables) new read streams = (
    (λ s. let is = new.0 s in
        let at = sym is.0 in
        subst (λ (x : ToldTable). AllByRecursion (HasItsStream t x.name) x.records → Read t x → GivesNewRows p t x) at
        (λ brought_there there. table_gives takes gives p t table.name is.1 is.2 there brought_there) streams.0 (read_of t table (records_for table.name t) refl read.0)),
    all_give tables new.1 read.1 streams.1,
  )

pub made_records_give_new_rows : TakenPlacesHoldTheirText → GivenBackTakesOne → MadeRecordsGiveNewRows
made_records_give_new_rows takes gives p t is can =
    all_give takes gives p t (told_tables p.old p.new) (tables_new p can) (made_records_are_read p t is can.apart can.spellable) (made_streams_are_brought p t is can.tellable)
