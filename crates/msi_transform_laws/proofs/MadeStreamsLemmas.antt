-- The streams of rows agree: for a transform that is made, from the records of `_Tables` on.
use Rattle.std.proofs.Common.{◌≡◌, ℕ, ◌+◌, Bool, true, false, not, ◌&&◌, ◌||◌, List, [], ◌∷◌, ◌++◌, length, map, filter, append-nil, Option, Some, None, is_some, Ok, refl, sym, ap, subst, ◌∙◌, arith, inl, inr}
use Rattle.std.specs.Prelude.{bytes_eq, if◌then◌else◌, is_none, unwrap_or}
use Rattle.std.specs.FinMap.{find}
use Rattle.std.specs.FinMap.Entries.{is_some-find}
use Rattle.std.specs.List.{AllByRecursion, flat_map, list_any}
use Rattle.std.specs.Ordering.{eq_by_cmp}
use Rattle.std.proofs.lemmas.Bool.{and_parts}
use Rattle.std.proofs.lemmas.List.Folds.{list_any-append}
use Rattle.msi_base.specs.Lists.{list_cmp}
use Rattle.msi_base.specs.Refusals.{unless_refused}
use Rattle.msi_base.proofs.BoolLemmas.{by_test, yes_is_no}
use Rattle.msi_base.proofs.OptionLemmas.{none_is, none_there, some_is, some_there}
use Rattle.msi_pool.specs.FirstFitLaws.{TakenPlacesHoldTheirText, GivenBackTakesOne}
use Rattle.msi_table_cells.specs.declared.cell.ValueRef.{ValueRef}
use Rattle.msi_table_cells.specs.CellValues.{row_values}
use Rattle.msi_table_cells.specs.KeyOrder.{key_of}
use Rattle.msi_table_values.specs.declared.value.Value.{Value}
use Rattle.msi_database_schema.specs.System.{columns_columns, columns_name, is_schema_table, tables_columns, tables_name}
use Rattle.msi_database_schema.specs.Keys.{table_key}
use Rattle.msi_database_schema.proofs.AccountLemmas.{Uses}
use Rattle.msi_database_changes.specs.Database.{Database, has_table}
use Rattle.msi_database_changes.specs.declared.storing.Stored.{Stored}
use Rattle.msi_database_storage.specs.Streams.{stream_at}
use Rattle.msi_transform_records.specs.Records.{records_in}
use Rattle.msi_transform_records.specs.declared.action.Action.TheVariants.{Add, Remove}
use Rattle.msi_transform_records.specs.declared.records.Record.{Record}
use Rattle.msi_transform.specs.Transforms.{TransformDef, records_for, shapes_of}
use Rattle.msi_transform.specs.declared.conditions.ErrorConditions.{ErrorConditions}
use Rattle.msi_transform_rows.specs.KeyOfRows.{key_cmp}
use Rattle.msi_transform_rows.specs.RecordRefusals.{nowhere, ◌>>=◌}
use Rattle.msi_transform_rows.specs.RowChanges.{keyed}
use Rattle.msi_transform_rows.specs.RowStreams.{has_streams, row_stream, row_stream_gone}
use Rattle.msi_transform_rows.specs.TableRecords.{changes_schema}
use Rattle.msi_transform_schema.specs.SchemaApplying.{page_refusals, schema_applied, schema_changed, schema_untouched, system_rows}
use Rattle.msi_transform_schema.specs.SchemaChanges.{SchemaChange, SchemaInHand, TableInHand, TablesTold, columns_in_hand, columns_of_package, is_gone, rows_of_package, table_in_hand, untold_table}
use Rattle.msi_transform_schema.specs.declared.schema.Standing.TheVariants as stands
use Rattle.msi_transform_applying.specs.Applying.{TableAnew, TablesChanged, TablesInHand, change_with, changed_with, gains_streams, is_anew, is_lengthened, lengthened_alone, lengthened_row, rows_applied, rows_changed, streams_agree, streams_begun, system_anew, systems_anew, table_lengthened, tables_begun, tables_changed, tables_in_turn, with_lengthened}
use Rattle.msi_transform_applying.proofs.OtherStreamsLemmas.{accepted, passed}
use Rattle.msi_transform_making.specs.Making.{Pair, ToldRecord, by_keys, columns_in_table, is_told, listing_record, made, names_beside, told_names, told_row, told_rows}
use Rattle.msi_transform_laws.specs.RowsBegun.{HasNewColumns}
use Rattle.msi_transform_laws.specs.StreamsAgree.{CanNameStreams, MadeStreamsAgree, SameColumnsStreamsAgree}
use Rattle.msi_transform_laws.specs.SchemaMade.{TablesCanChange}
use Rattle.msi_transform_laws.specs.TableApplied.{CanHaveRecords}
use Rattle.msi_transform_laws.specs.TablesChanged.{TableOfRecords, cells_to_change}
use Rattle.msi_transform_laws.proofs.BroughtStreamsLemmas.{made_streams_are_new}
use Rattle.msi_transform_laws.proofs.FitStreamsLemmas.{old_among, plain_name, tables_fit}
use Rattle.msi_transform_laws.proofs.HeardStreamsLemmas.{Heard, heard}
use Rattle.msi_transform_laws.proofs.KeysOfRecordsLemmas.{rows_there}
use Rattle.msi_transform_laws.proofs.MadeRecordsLemmas.{first_system, second_system, turned_name}
use Rattle.msi_transform_laws.proofs.NewTablesLemmas.{all_joined, made_transforms_give_new_tables, no_new_rows, no_rows_begun}
use Rattle.msi_transform_laws.proofs.OwnStreamNamesLemmas.{IsNewRow, no_row_gone, of_no_table}
use Rattle.msi_transform_laws.proofs.RecordStreamsLemmas.{RowAgrees}
use Rattle.msi_transform_laws.proofs.SameColumnsLemmas.{kept_by, same_columns_give_new_tables}
use Rattle.msi_transform_laws.proofs.SchemaListsLemmas.{absent_tables, all_passing, each_passing, list_of_tables, neither, not_told_is, not_true, read_tables}
use Rattle.msi_transform_laws.proofs.SchemaMadeLemmas.{IsGone, IsKnown, at_name, each_found, passes_among, system_new, whole_schema_gone}
use Rattle.msi_transform_laws.proofs.SchemaStreamsLemmas.{HasNot, RemovesOther, SaysNothing, removing_others, schema_says}
use Rattle.msi_transform_laws.proofs.StreamsAgreeLemmas.{HaveStood, all_agree}
use Rattle.msi_transform_laws.proofs.TableAppliedLemmas.{Read, read_of}
use Rattle.msi_transform_laws.proofs.TableChangedLemmas.{each_among}
use Rattle.msi_transform_laws.proofs.TablesChangedLemmas.{no_rows_there, sorted_in_transform}
use Rattle.msi_transform_laws.proofs.TurnedStreamsLemmas.{HasStood, RowsStand, all_anew, same_answer, turned}
use Rattle.msi_transform_laws.proofs.WithoutRecordsLemmas.{Stays, tables_without_records_stay}

-- THE PARTS OF APPLYING

module _ (change : SchemaChange) (page_id : ℕ) (c : TablesChanged) where
  abbrev Parts : Type 0
  Parts = (schema : SchemaInHand) × (s : TablesInHand) × (schema_applied change ≡ Ok schema) × (tables_in_turn change schema.tables 0 (tables_begun change schema) change.by.tables ≡ Ok s)
      × (changed_with schema.tables (with_lengthened change schema.tables s) ≡ c)

  parts_of : tables_changed change page_id ≡ Ok c → Parts
  parts_of is =
      let begun = nowhere (unless_refused (page_refusals page_id change.by change.passing) change) in
      let (schema, ran, changed) = passed (begun >>= schema_applied) (rows_changed change) c is in
      let (same, started, made_so) = passed begun schema_applied schema ran in
      let here : schema_applied change ≡ Ok schema = subst (λ (x : SchemaChange). schema_applied x ≡ Ok schema)
      (sym (accepted {A = SchemaChange} (page_refusals page_id change.by change.passing) change same started)) made_so in
      let (anew, put, ends) = passed (rows_applied change schema) (λ (tables : TablesInHand). Ok (changed_with schema.tables tables)) c changed in
      let (s, ran_in_turn, longer) = passed (tables_in_turn change schema.tables 0 (tables_begun change schema) change.by.tables) (λ (s : TablesInHand). Ok (with_lengthened change schema.tables s)) anew put in
      (schema, s, here, ran_in_turn, ap (changed_with schema.tables) (same_answer (with_lengthened change schema.tables s) anew longer) ∙ same_answer (changed_with schema.tables anew) c ends)

-- TABLES THAT ARE LENGTHENED AND HAVE NO ROWS

abbrev HasNoRows : Database → List ℕ × TableInHand → Type 0
HasNoRows d e = rows_of_package d e.0 e.1.standing ≡ []

module _ (d : Database) where
  none_if : (b : Bool) (f : List ValueRef → List Stored) (rows : List (List ValueRef)) → rows ≡ [] → (if b then flat_map f rows else []) ≡ []
  none_if true f rows none = ap (flat_map f) none
  none_if false f rows none = refl

  none_begun : (e : List ℕ × TableInHand) → HasNoRows d e → streams_begun d e.0 e.1 ≡ []
  none_begun e none =
      let own_columns = columns_of_package d e.0 e.1.standing in
      none_if (gains_streams own_columns e.1.added) (λ row. row_stream_gone e.0 (key_of own_columns (row_values d.pool.places row))) (rows_of_package d e.0 e.1.standing) none

  all_none_begun : (es : List (List ℕ × TableInHand)) → AllByRecursion (HasNoRows d) es → flat_map (λ (e : List ℕ × TableInHand). streams_begun d e.0 e.1) es ≡ []
  all_none_begun [] h = refl
  all_none_begun (e ∷ es) h = let first = none_begun e h.0 in let rest = all_none_begun es h.1 in λ i. first i ++ rest i

module _ (wanted : Option (List ℕ)) (table : List ℕ) (key : List Value) (n : List ℕ) (at : row_stream table key ≡ Some n) (change : SchemaChange) (told : TablesTold) where
  abbrev Stood : TablesInHand → Type 0
  Stood = HasStood wanted table key n at change told

  lengthened_stand : (h : Heard) (es : List (List ℕ × TableInHand)) → AllByRecursion (HasNoRows change.database) es → RowsStand wanted table key n at change told (map (table_lengthened change.database) es) h
  lengthened_stand h [] none = tt
  lengthened_stand h (e ∷ es) none = (
    (λ _. subst (λ (rows : List (List ValueRef)). RowAgrees change.by wanted n (find key_cmp key (map (keyed (columns_in_hand change.database e.0 e.1) change.database.pool.places)
        (map (lengthened_row (columns_of_package change.database e.0 e.1.standing) e.1.added) rows))) h) (sym none.0) tt),
    lengthened_stand h es none.1,
  )

  longer_stood : (s : TablesInHand) → AllByRecursion (HasNoRows change.database) (lengthened_alone change.by told) → Stood s → Stood (with_lengthened change told s)
  longer_stood s none stood =
      let alone = lengthened_alone change.by told in
      let same : s.streams ≡ (with_lengthened change told s).streams = sym (ap (λ (l : List Stored). s.streams ++ l) (all_none_begun change.database alone none) ∙ append-nil s.streams) in
      let h = heard n (with_lengthened change told s).streams in
      record {
        of = subst (λ (l : List Stored). (bytes : List ℕ) → heard n l ≡ Some (Some bytes) → stream_at n change.by.streams ≡ Some bytes) same stood.of;
        quiet = λ a w. ap (heard n) (sym same) ∙ stood.quiet
            (neither (is_anew s table) (list_any (λ (t : TableAnew). bytes_eq t.name table) (map (table_lengthened change.database) alone))
            (sym (list_any-append (λ (t : TableAnew). bytes_eq t.name table) s.tables (map (table_lengthened change.database) alone)) ∙ a)).0 w;
        rows = all_joined (λ (t : TableAnew). t.name ≡ table → RowAgrees change.by wanted n (find key_cmp key t.rows) h) s.tables (map (table_lengthened change.database) alone)
            (subst (λ (l : List Stored). RowsStand wanted table key n at change told s.tables (heard n l)) same stood.rows) (lengthened_stand h alone none);
      }

  -- BEFORE THE TABLES
  abbrev systems_if : Bool → SchemaInHand → List TableAnew
  systems_if b schema = if b then system_anew tables_name tables_columns schema.listed ∷ system_anew columns_name columns_columns schema.described ∷ [] else []

  not_system : (name : List ℕ) → is_schema_table table ≡ false → is_schema_table name ≡ true → name ≡ table → ⊥
  not_system name plain system same = yes_is_no (is_schema_table table) (ap is_schema_table (sym same) ∙ system) plain

  systems_stand : (schema : SchemaInHand) → is_schema_table table ≡ false → (h : Heard) (b : Bool) → RowsStand wanted table key n at change told (systems_if b schema) h
  systems_stand schema plain h true = ((λ same. absurd (not_system tables_name plain refl same)), ((λ same. absurd (not_system columns_name plain refl same)), tt))
  systems_stand schema plain h false = tt

  begun_stood : (schema : SchemaInHand) → is_schema_table table ≡ false → (of : (name : List ℕ) → table_key name ≡ n → ⊥) → SaysNothing change wanted table key n at of schema → Stood (tables_begun change schema)
  begun_stood schema plain of says = record {
    of = says.0;
    quiet = λ a. says.1;
    rows = systems_stand schema plain (heard n schema.streams) (changes_schema change.by);
  }

-- no other table is stored anew yet
none_by : (schema : SchemaInHand) (b : Bool) (name : List ℕ) → is_schema_table name ≡ false
    → list_any (λ (t : TableAnew). bytes_eq t.name name) (if b then system_anew tables_name tables_columns schema.listed ∷ system_anew columns_name columns_columns schema.described ∷ [] else []) ≡ false
none_by schema true name plain = rw (turned_name tables_name name (first_system name plain), turned_name columns_name name (second_system name plain)) refl
none_by schema false name plain = refl

none_yet : (change : SchemaChange) (schema : SchemaInHand) (es : List TableOfRecords) → AllByRecursion (λ (e : TableOfRecords). is_schema_table e.0 ≡ false → is_anew (tables_begun change schema) e.0 ≡ false) es
none_yet change schema [] = tt
none_yet change schema (e ∷ es) = ((λ plain. none_by schema (changes_schema change.by) e.0 plain), none_yet change schema es)

-- the two lists have no streams
plain_by : (schema : SchemaInHand) (b : Bool)
    → AllByRecursion (λ (x : TableAnew). has_streams x.columns ≡ false) (if b then system_anew tables_name tables_columns schema.listed ∷ system_anew columns_name columns_columns schema.described ∷ [] else [])
plain_by schema true = (refl, (refl, tt))
plain_by schema false = tt

-- WHAT IS KNOWN ONCE THE SCHEMA IS

module _ (p : Pair) (t : TransformDef) (is : made p ≡ Ok t) (can : CanHaveRecords p) (names : CanNameStreams p) (passing : ErrorConditions) where
  abbrev old : Database
  old = p.old.database

  abbrev change : SchemaChange
  change = change_with p.old t passing

  -- what is known of the tables and of the streams once the records of `_Tables` and `_Columns` are applied
  record IsChanged (schema : SchemaInHand) : Type 0 where
    columns : AllByRecursion (λ name. HasNewColumns p.old p.new name (table_in_hand old schema.tables name)) (told_names p.new)
    says : (table : List ℕ) (key : List Value) (n : List ℕ) (at : row_stream table key ≡ Some n) → IsNewRow p t is names table key n
        → SaysNothing change (stream_at n p.new.streams) table key n at (of_no_table table key n at) schema
    alone : AllByRecursion (HasNoRows old) (lengthened_alone t schema.tables)
    gone : (name : List ℕ) → is_schema_table name ≡ false → has_table name old ≡ true → has_table name p.new.database ≡ false → is_gone (table_in_hand old schema.tables name).standing ≡ true

  module _ (schema : SchemaInHand) (known : IsChanged schema) (s : TablesInHand) (ran : tables_in_turn change schema.tables 0 (tables_begun change schema) t.tables ≡ Ok s) where
    abbrev end : TablesInHand
    end = with_lengthened change schema.tables s

    end_stood : (table : List ℕ) (key : List Value) (n : List ℕ) (at : row_stream table key ≡ Some n) → IsNewRow p t is names table key n
        → HasStood (stream_at n p.new.streams) table key n at change schema.tables end
    end_stood table key n at row =
        let wanted = stream_at n p.new.streams in
        longer_stood wanted table key n at change schema.tables s known.alone
        (turned wanted table key n at change schema.tables t.tables 0 (tables_begun change schema) s
        (tables_fit p t is can names table key n at row schema.tables known.columns passing) (sorted_in_transform p t is) (none_yet change schema t.tables) ran
        (begun_stood wanted table key n at change schema.tables schema (plain_name p t is can names table row.among) (of_no_table table key n at) (known.says table key n at row)))

    all_as : {X : Type 0} (P Q : X → Type 0) → ((x : X) → P x → Q x) → (xs : List X) → AllByRecursion P xs → AllByRecursion Q xs
    all_as P Q f [] h = tt
    all_as P Q f (x ∷ xs) h = (f x h.0, all_as P Q f xs h.1)

    still_anew : (name : List ℕ) → is_anew s name ≡ true → is_anew end name ≡ true
    still_anew name h =
        let others = map (table_lengthened old) (lengthened_alone t schema.tables) in
        list_any-append (λ (x : TableAnew). bytes_eq x.name name) s.tables others ∙ ap (λ b. b || list_any (λ (x : TableAnew). bytes_eq x.name name) others) h

    end_known : (long : Bool) → HaveStood p t is can names passing schema.tables end long
    end_known long = record {
      stood = end_stood;
      of_new = made_streams_are_new p t is can.tellable;
      columns = known.columns;
      anew = all_as (λ (e : TableOfRecords). is_schema_table e.0 ≡ false → is_anew s e.0 ≡ true) (λ (e : TableOfRecords). is_schema_table e.0 ≡ false → is_anew end e.0 ≡ true) (λ e h plain. still_anew e.0 (h plain)) t.tables
          (all_anew change schema.tables t.tables 0 (tables_begun change schema) s ran).1;
      gone = known.gone;
    }

  -- THE RECORDS OF `_Tables`
  abbrev old_names : List (List ℕ)
  old_names = map (λ t. t.0) old.tables

  abbrev goes : List ℕ → Bool
  goes name = not (has_table name p.new.database)

  among_gone : (name : List ℕ) → has_table name old ≡ true → has_table name p.new.database ≡ false → list_any (eq_by_cmp list_cmp name) (names_beside old p.new.database) ≡ true
  among_gone name there none = passes_among goes name old_names (sym (is_some-find list_cmp name old.tables) ∙ there) (ap not none)

  no_new_row : (name : List ℕ) → has_table name p.new.database ≡ false → (k : List Value) → is_some (find key_cmp k (told_rows p.new name 0)) ≡ false
  no_new_row name none k =
      ap (λ (rows : List (List ValueRef)). is_some (find key_cmp k (by_keys (map (told_row p.new name (columns_in_table p.new name) 0) (map (row_values p.new.database.pool.places) rows)))))
      (no_rows_there p.new.database name none)

  module _ (adds : TablesCanChange p) (table : List ℕ) (key : List Value) (n : List ℕ) (at : row_stream table key ≡ Some n) (row : IsNewRow p t is names table key n) where
    abbrev wanted : Option (List ℕ)
    wanted = stream_at n p.new.streams

    abbrev Without : List ℕ → Type 0
    Without = HasNot change wanted table key n at (of_no_table table key n at)

    gone_plain : (name : List ℕ) → has_table name p.new.database ≡ false → is_schema_table name ≡ false
    gone_plain name none = by_test (is_schema_table name) (λ b. yes_is_no (has_table name p.new.database) (system_new p t is can adds name b) none) (λ b. b)

    rows_not : (name : List ℕ) → has_table name old ≡ true → has_table name p.new.database ≡ false → has_streams (columns_in_table p.old name) ≡ true → is_some wanted ≡ true → (rows : List (List ValueRef))
        → AllByRecursion (λ (r : List ValueRef). is_some (find key_cmp (key_of (columns_in_table p.old name) (row_values old.pool.places r)) (told_rows p.old name 0)) ≡ true) rows
        → AllByRecursion (λ (r : List Value). row_stream name (key_of (columns_in_table p.old name) r) ≡ Some n → ⊥) (map (row_values old.pool.places) rows)
    rows_not name there none some w [] h = tt
    rows_not name there none some w (r ∷ rs) h =
        let k = key_of (columns_in_table p.old name) (row_values old.pool.places r) in (
          (λ found. no_row_gone p t is names n (unwrap_or wanted []) (some_there wanted [] w) table name key k row (old_among p t is can names name (gone_plain name none) there)
              (ap (λ b. b || has_streams (columns_in_table p.new name)) some) h.0 (no_new_row name none k) found),
          rows_not name there none some w rs h.1,
        )

    one_not : (name : List ℕ) → has_table name old ≡ true → has_table name p.new.database ≡ false → Without name
    one_not name there none some w = rows_not name there none some w (system_rows old name) (rows_there p.old name 0)

    all_not : (ms : List (List ℕ)) → AllByRecursion (λ name. goes name ≡ true) ms → AllByRecursion (λ name. list_any (eq_by_cmp list_cmp name) old_names ≡ true) ms → AllByRecursion Without ms
    all_not [] g h = tt
    all_not (m ∷ ms) g h = (one_not m (is_some-find list_cmp m old.tables ∙ h.0) (not_true (has_table m p.new.database) g.0), all_not ms g.1 h.1)

    gone_not : AllByRecursion Without (names_beside old p.new.database)
    gone_not = all_not (names_beside old p.new.database) (each_passing goes old_names) (all_passing (λ name. list_any (eq_by_cmp list_cmp name) old_names ≡ true) goes old_names (each_among old_names))

    abbrev Other : Record → Type 0
    Other = RemovesOther change wanted table key n at (of_no_table table key n at)

    read_others : Read t (list_of_tables p) → (bytes : List ℕ) (rs : List Record) → records_for tables_name t ≡ Some bytes → records_in (shapes_of tables_columns) t.pool bytes ≡ Some rs → AllByRecursion Other rs
    read_others read bytes rs at_bytes found =
        let (own, at_own, stored, records, says) = read in
        let same : own ≡ bytes = some_is own bytes (sym at_own ∙ at_bytes) in
        let stored_are : stored ≡ rs = some_is stored rs (sym records ∙ ap (records_in (shapes_of tables_columns) t.pool) same ∙ found) in
        subst (AllByRecursion Other) stored_are
        (removing_others change wanted table key n at (of_no_table table key n at) (names_beside old p.new.database) (names_beside p.new.database old) stored says gone_not)

    table_records : (bytes : List ℕ) (rs : List Record) → records_for tables_name t ≡ Some bytes → records_in (shapes_of tables_columns) t.pool bytes ≡ Some rs → AllByRecursion Other rs
    table_records bytes rs at_bytes found = by_test (is_told (list_of_tables p))
        (λ b. read_others (read_of t (list_of_tables p) (records_for tables_name t) refl ((read_tables p t is can).0 b)) bytes rs at_bytes found)
        (λ b. none_is (sym (absent_tables p t is can b) ∙ at_bytes))

    nothing_said : (schema : SchemaInHand) → schema_changed change ≡ Ok schema → SaysNothing change wanted table key n at (of_no_table table key n at) schema
    nothing_said schema ran = schema_says change wanted table key n at (of_no_table table key n at) schema table_records ran

  -- TABLES THAT ARE LENGTHENED AND HAVE NO RECORDS
  module _ (tables : TablesTold) (columns : AllByRecursion (λ name. HasNewColumns p.old p.new name (table_in_hand old tables name)) (told_names p.new)) where
    new_empty : (name : List ℕ) (table : TableInHand) → HasNewColumns p.old p.new name table → Stays p t name → records_for name t ≡ None → is_lengthened table ≡ true → HasNoRows old (name, table)
    new_empty name table has stays none longer =
        let nothing = no_new_rows p t passing name table has stays none (has_table name old) refl table.standing has.stands has.columns longer in
        no_rows_begun p t passing name table has stays none nothing (has_table name old) refl table.standing has.stands

    one_empty : (name : List ℕ) (table : TableInHand) → find list_cmp name tables ≡ Some table → is_lengthened table ≡ true → is_none (records_for name t) ≡ true → IsKnown p tables name → HasNoRows old (name, table)
    one_empty name table found longer none (inl named) =
        let there : table_in_hand old tables name ≡ table = ap (λ (o : Option TableInHand). unwrap_or o (untold_table old name)) found in
        let has = subst (HasNewColumns p.old p.new name) there (at_name (λ name. HasNewColumns p.old p.new name (table_in_hand old tables name)) name (told_names p.new) columns named) in
        new_empty name table has (at_name (Stays p t) name (told_names p.new) (tables_without_records_stay p t is can) named) (none_there (records_for name t) (not_true (is_some (records_for name t)) none)) longer
    one_empty name table found longer none (inr gone) =
        let there : record { standing = stands.Gone; added = [] } ≡ table = some_is (record { standing = stands.Gone; added = [] }) table (sym gone ∙ found) in
        yes_is_no (is_lengthened table) longer (ap is_lengthened (sym there))

    all_empty : (es : TablesTold) → AllByRecursion (λ (e : List ℕ × TableInHand). IsKnown p tables e.0) es → AllByRecursion (λ (e : List ℕ × TableInHand). find list_cmp e.0 tables ≡ Some e.1) es
        → AllByRecursion (HasNoRows old) (filter (λ (e : List ℕ × TableInHand). is_lengthened e.1 && is_none (records_for e.0 t)) es)
    all_empty [] h found = tt
    all_empty (e ∷ es) h found = by_test (is_lengthened e.1 && is_none (records_for e.0 t))
        (λ b. let q = and_parts (is_lengthened e.1) (is_none (records_for e.0 t)) b in rw b (one_empty e.0 e.1 found.0 q.0 q.1 h.0, all_empty es h.1 found.1))
        (λ b. rw b (all_empty es h.1 found.1))

  gone_then : (tables : TablesTold) → AllByRecursion (IsGone p tables) (names_beside old p.new.database) → (name : List ℕ) → has_table name old ≡ true → has_table name p.new.database ≡ false
      → is_gone (table_in_hand old tables name).standing ≡ true
  gone_then tables gone name there none =
      let found = at_name (IsGone p tables) name (names_beside old p.new.database) gone (among_gone name there none) in
      ap (λ (o : Option TableInHand). is_gone (unwrap_or o (untold_table old name)).standing) found

  -- WITHOUT RECORDS OF `_Tables`
  none_gone : (ms : List (List ℕ)) (others : List ToldRecord) → map (listing_record Remove) ms ++ others ≡ [] → ms ≡ []
  none_gone [] others h = refl
  none_gone (m ∷ ms) others h = let long = ap (λ (l : List ToldRecord). length l) h in absurd (omega (arith, long))

  no_list : changes_schema t ≡ false → is_told (list_of_tables p) ≡ false
  no_list unchanged =
      let none = none_there (records_for tables_name t) (neither (is_some (records_for tables_name t)) (is_some (records_for columns_name t)) unchanged).0 in
      by_test (is_told (list_of_tables p))
      (λ b. let read = read_of t (list_of_tables p) (records_for tables_name t) refl ((read_tables p t is can).0 b) in none_is (sym none ∙ read.1))
      (λ b. b)

  nothing_goes : changes_schema t ≡ false → (name : List ℕ) → has_table name old ≡ true → has_table name p.new.database ≡ false → ⊥
  nothing_goes unchanged name there none =
      let empty = none_gone (names_beside old p.new.database) (map (listing_record (Add 1)) (names_beside p.new.database old)) (not_told_is (list_of_tables p) (no_list unchanged)) in
      yes_is_no (list_any (eq_by_cmp list_cmp name) (names_beside old p.new.database)) (among_gone name there none) (ap (λ (l : List (List ℕ)). list_any (eq_by_cmp list_cmp name) l) empty)

columns_kept : (p : Pair) (s : TablesInHand) (same_places : s.pool.places ≡ p.old.database.pool.places) (ns : List (List ℕ)) → AllByRecursion (λ name. has_table name p.old.database ≡ true) ns
    → AllByRecursion (λ name. shapes_of (columns_in_table p.old name) ≡ shapes_of (columns_in_table p.new name)) ns → AllByRecursion (λ name. HasNewColumns p.old p.new name (table_in_hand p.old.database [] name)) ns
columns_kept p s same_places [] there same = tt
columns_kept p s same_places (n ∷ ns) there same = (kept_by p s same_places n (has_table n p.old.database) there.0 refl same.0, columns_kept p s same_places ns there.1 same.1)

-- THE LAWS

pub made_streams_agree : TakenPlacesHoldTheirText → GivenBackTakesOne → MadeStreamsAgree
made_streams_agree takes gives p t passing others is can adds changes streams passes counts fits names changed long ran =
    let d = p.old.database in
    let sc = change_with p.old t passing in
    let beside : Uses = λ n. cells_to_change d t.tables n + others n in
    let (schema, schema_ran, columns, are, named, gone) = whole_schema_gone p t is can adds takes gives passing beside counts (omega (arith, fits)) in
    let (listed, after, done, law_ran, new) = made_transforms_give_new_tables takes gives p t passing others is can adds changes streams passes counts fits in
    let (mine, s, applied, in_turn, ends) = parts_of sc p.old_page changed ran in
    let same_schema : schema ≡ mine = same_answer schema mine (sym schema_ran ∙ sym (ap (λ b. if b then schema_changed sc else Ok (schema_untouched d)) changes) ∙ applied) in
    let turned_so : tables_in_turn sc schema.tables 0 (tables_begun sc schema) t.tables ≡ Ok s =
    subst (λ (x : SchemaInHand). tables_in_turn sc x.tables 0 (tables_begun sc x) t.tables ≡ Ok s) (sym same_schema) in_turn in
    let last = with_lengthened sc schema.tables s in
    let end_is : changed_with schema.tables last ≡ changed = ap (λ (x : SchemaInHand). changed_with x.tables (with_lengthened sc x.tables s)) same_schema ∙ ends in
    let law_is : changed ≡ changed_with listed.tables after = same_answer changed (changed_with listed.tables after) (sym ran ∙ law_ran) in
    let tables : last.tables ≡ systems_anew t listed ++ done = ap (λ (c : TablesChanged). c.tables.tables) (end_is ∙ law_is) ∙ new.tables in
    let known : IsChanged p t is can names passing schema = record {
      columns = columns;
      says = λ table key n at row. nothing_said p t is can names passing adds table key n at row schema schema_ran;
      alone = all_empty p t is can names passing schema.tables columns schema.tables named.each (each_found schema.tables named.sorted);
      gone = λ name plain there none. gone_then p t is can names passing schema.tables gone name there none;
    } in
    subst (λ (c : TablesChanged). streams_agree p.old t c.told c.tables long ≡ true) end_is
    (all_agree p t is can names passing schema.tables last long (end_known p t is can names passing schema known s turned_so long) after.pool.places (systems_anew t listed) done tables
    (plain_by listed (changes_schema t)) new.rows)

pub same_columns_streams_agree : TakenPlacesHoldTheirText → GivenBackTakesOne → SameColumnsStreamsAgree
same_columns_streams_agree takes gives p t passing others is can same unchanged passes counts fits names changed long ran =
    let d = p.old.database in
    let sc = change_with p.old t passing in
    let schema = schema_untouched d in
    let (after, done, law_ran, are) = same_columns_give_new_tables takes gives p t passing others is can same unchanged passes counts fits in
    let (mine, s, applied, in_turn, ends) = parts_of sc p.old_page changed ran in
    let same_schema : schema ≡ mine = same_answer schema mine (sym (ap (λ b. if b then schema_changed sc else Ok schema) unchanged) ∙ applied) in
    let turned_so : tables_in_turn sc [] 0 (tables_begun sc schema) t.tables ≡ Ok s =
    subst (λ (x : SchemaInHand). tables_in_turn sc x.tables 0 (tables_begun sc x) t.tables ≡ Ok s) (sym same_schema) in_turn in
    let last = with_lengthened sc [] s in
    let end_is : changed_with [] last ≡ changed = ap (λ (x : SchemaInHand). changed_with x.tables (with_lengthened sc x.tables s)) same_schema ∙ ends in
    let law_is : changed ≡ changed_with [] after = same_answer changed (changed_with [] after) (sym ran ∙ law_ran) in
    let tables : last.tables ≡ systems_anew t schema ++ done = ap (λ (c : TablesChanged). c.tables.tables) (end_is ∙ law_is) ∙ are.tables in
    let known : IsChanged p t is can names passing schema = record {
      columns = columns_kept p (tables_begun sc schema) refl (told_names p.new) same.there same.columns;
      says = λ table key n at row. ((λ bytes h. none_is h), (λ w. refl));
      alone = tt;
      gone = λ name plain there none. absurd (nothing_goes p t is can names passing unchanged name there none);
    } in
    subst (λ (c : TablesChanged). streams_agree p.old t c.told c.tables long ≡ true) end_is
    (all_agree p t is can names passing [] last long (end_known p t is can names passing schema known s turned_so long) after.pool.places (systems_anew t schema) done tables
    (plain_by schema (changes_schema t)) are.rows)
