-- The streams of rows agree, once a transform that is made is applied to the old package.
use Rattle.std.proofs.Common.{◌≡◌, ℕ, ◌+◌, ◌-◌, Bool, true, false, not, ◌||◌, List, [], ◌∷◌, ◌++◌, length, map, filter, Option, Some, None, is_some, Ok, T, refl, sym, ap, subst, ◌∙◌}
use Rattle.std.specs.Prelude.{bytes_eq, is_none, option_and_then, option_map, unwrap_or}
use Rattle.std.specs.Cmp.{eq_by_cmp_equiv, tied_itself}
use Rattle.std.specs.Cmp.Lexicographic.{bytes_decides}
use Rattle.std.specs.FinMap.{find, is_sorted}
use Rattle.std.specs.FinMap.Entries.{below_all}
use Rattle.std.specs.List.{AllByRecursion, list_all, list_any}
use Rattle.std.specs.Option.{option_map_or}
use Rattle.std.specs.Ordering.{eq_by_cmp, is_lt}
use Rattle.std.proofs.lemmas.Bool.{and_parts}
use Rattle.msi_base.specs.Lists.{has_pair, list_cmp}
use Rattle.msi_base.proofs.BoolLemmas.{T_parts, by_test, yes_is_no}
use Rattle.msi_base.proofs.OptionLemmas.{none_is, none_there, not_given, some_is}
use Rattle.msi_pool.specs.Pool.{Place}
use Rattle.msi_table_cells.specs.declared.cell.ValueRef.{ValueRef}
use Rattle.msi_table_cells.specs.CellValues.{row_values}
use Rattle.msi_table_cells.specs.KeyOrder.{key_of}
use Rattle.msi_table_cells.specs.TableCells.{TableCells}
use Rattle.msi_table_values.specs.declared.value.Value.{Value}
use Rattle.msi_table_values.specs.Columns.{ColumnDef}
use Rattle.msi_database_schema.specs.System.{is_schema_table}
use Rattle.msi_database_changes.specs.Database.{Database, has_table, rows_of, table_at}
use Rattle.msi_database_changes.specs.declared.storing.Stored.{Stored}
use Rattle.msi_database_storage.specs.Streams.{Streams, stream_at}
use Rattle.msi_transform.specs.Transforms.{TransformDef, records_for}
use Rattle.msi_transform.specs.declared.conditions.ErrorConditions.{ErrorConditions}
use Rattle.msi_transform_rows.specs.KeyOfRows.{key_cmp}
use Rattle.msi_transform_rows.specs.RowChanges.{Rows, keyed}
use Rattle.msi_transform_rows.specs.RowStreams.{brought, has_streams, row_stream}
use Rattle.msi_transform_rows.specs.declared.row.RowInHand.{RowInHand}
use Rattle.msi_transform_rows.specs.declared.row.RowStream.{RowStream}
use Rattle.msi_transform_rows.specs.declared.row.RowStream.TheVariants.{AsBefore, Gone, Brought}
use Rattle.msi_transform_schema.specs.SchemaApplying.{system_rows}
use Rattle.msi_transform_schema.specs.SchemaChanges.{TablesTold, columns_in_hand, columns_of_package, is_gone, plain_row, table_in_hand}
use Rattle.msi_transform_schema.specs.declared.schema.Standing.{Standing}
use Rattle.msi_transform_schema.specs.declared.schema.Standing.TheVariants as stands
use Rattle.msi_transform_applying.specs.Applying.{TableAnew, TablesInHand, change_with, has_its_stream, is_anew, is_said, row_agrees, same_stream, stays, streams_agree, streams_left, table_agrees, table_staying, tables_left}
use Rattle.msi_transform_making.specs.Making.{Pair, ToldRow, ToldRows, columns_before, columns_in_table, made, told_names, told_rows}
use Rattle.msi_transform_laws.specs.RowsApplied.{AreAlike, HasValuesOf, stream_in_hand}
use Rattle.msi_transform_laws.specs.RowsBegun.{HasNewColumns, StandsAs}
use Rattle.msi_transform_laws.specs.StreamsAgree.{CanNameStreams}
use Rattle.msi_transform_laws.specs.TableApplied.{CanHaveRecords, table_change}
use Rattle.msi_transform_laws.specs.TablesChanged.{HasNewRows, TableOfRecords}
use Rattle.msi_transform_laws.proofs.CarriedOutLemmas.{keys_total, less}
use Rattle.msi_transform_laws.proofs.FitStreamsLemmas.{new_among, same_streams}
use Rattle.msi_transform_laws.proofs.HeardStreamsLemmas.{Heard, heard, is_heard, left_heard, left_then}
use Rattle.msi_transform_laws.proofs.KeysOfRecordsLemmas.{rows_there}
use Rattle.msi_transform_laws.proofs.ListedTablesLemmas.{exact_names}
use Rattle.msi_transform_laws.proofs.NewTablesLemmas.{all_joined}
use Rattle.msi_transform_laws.proofs.OwnStreamNamesLemmas.{IsNewRow, of_no_table, row_there, stream_told}
use Rattle.msi_transform_laws.proofs.RecordStreamsLemmas.{Agrees, IsOf, RowAgrees}
use Rattle.msi_transform_laws.proofs.RowsBegunLemmas.{streams_beside}
use Rattle.msi_transform_laws.proofs.SchemaListsLemmas.{neither, not_true}
use Rattle.msi_transform_laws.proofs.SchemaMadeLemmas.{IsNamed, at_name}
use Rattle.msi_transform_laws.proofs.StoredRecordsLemmas.{names_total, other_name}
use Rattle.msi_transform_laws.proofs.TurnedStreamsLemmas.{HasStood}
use Rattle.msi_transform_laws.proofs.WithoutRecordsLemmas.{Stays, tables_without_records_stay}

or_true : (b : Bool) → (b || true) ≡ true
or_true true = refl
or_true false = refl

same_itself : (o : Option (List ℕ)) → same_stream o o ≡ true
same_itself None = refl
same_itself (Some bytes) = (bytes_decides bytes bytes).1 refl

-- ONE ROW

module _ (p : Pair) (t : TransformDef) (said : List Stored) (after : Streams) (table : List ℕ) (columns : List ColumnDef) (passing : ErrorConditions) (key : List Value) (n : List ℕ) (at : row_stream table key ≡ Some n)
    (of_new : (bytes : List ℕ) → stream_at n t.streams ≡ Some bytes → stream_at n p.new.streams ≡ Some bytes) where
  abbrev before : Option (List ℕ)
  before = stream_at n p.old.streams

  abbrev new : Option (List ℕ)
  new = stream_at n p.new.streams

  abbrev Hand : RowStream → Type 0
  Hand stream = stream_in_hand p.old.streams (table_change table columns t passing) key stream ≡ new

  none_heard : (x : Option (List ℕ)) → new ≡ None → IsOf t n (Some x) → x ≡ None
  none_heard None none of = refl
  none_heard (Some bytes) none of = none_is (sym none ∙ of_new bytes (of bytes refl))

  not_wanted : (x : Option (List ℕ)) → (is_some new ≡ true → Some x ≡ None) → new ≡ None
  not_wanted x quiet = none_there new (by_test (is_some new) (λ w. absurd (not_given x (quiet w))) (λ f. f))

  brought_is : brought t table key ≡ stream_at n t.streams
  brought_is = ap (option_and_then (λ (m : List ℕ). stream_at m t.streams)) at

  last_brought : (x : Option (List ℕ)) → IsOf t n (Some x) → Hand Brought → (is_some new ≡ true → Some x ≡ Some (stream_at n t.streams)) → x ≡ stream_at n t.streams
  last_brought x of hand last = by_test (is_some new)
      (λ w. some_is x (stream_at n t.streams) (last w))
      (λ f. let none = none_there new f in none_heard x none of ∙ sym (sym brought_is ∙ hand ∙ none))

  agrees_by : (stream : RowStream) (h : Heard) → heard n said ≡ h → stream_at n after ≡ left_then h before → IsOf t n h → Hand stream → Agrees t new n stream h → has_its_stream p.old t said after table key stream n ≡ true
  agrees_by AsBefore None heard_is left of hand agrees =
      ap (λ b. not b || same_stream (stream_at n after) before) (is_heard n said ∙ ap (λ (h : Heard). is_some h) heard_is)
  agrees_by AsBefore (Some x) heard_is left of hand agrees =
      let none = not_wanted x agrees in
      let there : stream_at n after ≡ None = left ∙ none_heard x none of in
      let old : before ≡ None = sym (ap (option_and_then (λ (m : List ℕ). stream_at m p.old.streams)) at) ∙ hand ∙ none in
      let same : same_stream (stream_at n after) before ≡ true = λ i. same_stream (there i) (old i) in
      ap (λ b. not (is_said said n) || b) same ∙ or_true (not (is_said said n))
  agrees_by Gone None heard_is left of hand agrees = yes_is_no false agrees refl
  agrees_by Gone (Some x) heard_is left of hand agrees = ap (λ (o : Option (List ℕ)). is_none o) (left ∙ none_heard x (sym hand) of)
  agrees_by Brought None heard_is left of hand agrees = yes_is_no false agrees.0 refl
  agrees_by Brought (Some x) heard_is left of hand agrees =
      let there : stream_at n after ≡ stream_at n t.streams = left ∙ last_brought x of hand agrees.1 in
      let same : same_stream (stream_at n after) (brought t table key) ≡ same_stream (stream_at n t.streams) (stream_at n t.streams) = λ i. same_stream (there i) (brought_is i) in
      same ∙ same_itself (stream_at n t.streams)

-- LISTS

all_true : {X : Type 0} (f : X → Bool) (xs : List X) → AllByRecursion (λ x. f x ≡ true) xs → list_all f xs ≡ true
all_true f [] h = refl
all_true f (x ∷ xs) h = rw h.0 (all_true f xs h.1)

row_behind : (e : List Value × RowInHand) (all es : Rows) → T (below_all key_cmp e.0 es) → AllByRecursion (λ (f : List Value × RowInHand). find key_cmp f.0 all ≡ Some f.1) es
    → AllByRecursion (λ (f : List Value × RowInHand). find key_cmp f.0 (e ∷ all) ≡ Some f.1) es
row_behind e all [] below h = tt
row_behind e all (f ∷ fs) below h =
    let q = T_parts (is_lt (key_cmp e.0 f.0)) (below_all key_cmp e.0 fs) below in
    let apart : eq_by_cmp key_cmp f.0 e.0 ≡ false = (eq_by_cmp_equiv keys_total).symm f.0 e.0 ∙ less (key_cmp e.0 f.0) q.0 in
    (rw apart h.0, row_behind e all fs q.1 h.1)

each_row : (es : Rows) → T (is_sorted key_cmp es) → AllByRecursion (λ (e : List Value × RowInHand). find key_cmp e.0 es ≡ Some e.1) es
each_row [] h = tt
each_row (e ∷ es) h =
    let q = T_parts (below_all key_cmp e.0 es) (is_sorted key_cmp es) h in
    (rw (tied_itself keys_total e.0) refl, row_behind e es es q.0 (each_row es q.1))

abbrev Entry : Type 0
Entry = List ℕ × TableCells

table_behind : (e : Entry) (all es : List Entry) → list_any (bytes_eq e.0) (map (λ (f : Entry). f.0) es) ≡ false → AllByRecursion (λ (f : Entry). find list_cmp f.0 all ≡ Some f.1) es
    → AllByRecursion (λ (f : Entry). find list_cmp f.0 (e ∷ all) ≡ Some f.1) es
table_behind e all [] apart h = tt
table_behind e all (f ∷ fs) apart h =
    let q = neither (bytes_eq e.0 f.0) (list_any (bytes_eq e.0) (map (λ (f : Entry). f.0) fs)) apart in
    (rw (other_name f.0 e.0 q.0) h.0, table_behind e all fs q.1 h.1)

each_table : (es : List Entry) → has_pair bytes_eq (map (λ (f : Entry). f.0) es) ≡ false → AllByRecursion (λ (e : Entry). find list_cmp e.0 es ≡ Some e.1) es
each_table [] apart = tt
each_table (e ∷ es) apart =
    let q = neither (list_any (bytes_eq e.0) (map (λ (f : Entry). f.0) es)) (has_pair bytes_eq (map (λ (f : Entry). f.0) es)) apart in
    (rw (tied_itself names_total e.0) refl, table_behind e es es q.0 (each_table es q.1))

-- ALL ROWS

module _ (p : Pair) (t : TransformDef) (is : made p ≡ Ok t) (can : CanHaveRecords p) (names : CanNameStreams p) (passing : ErrorConditions) (told : TablesTold) (s : TablesInHand) (long : Bool) where
  abbrev d : Database
  d = p.old.database

  abbrev left : Streams
  left = streams_left p.old long s

  abbrev TableAgrees : TableAnew → Type 0
  TableAgrees x = table_agrees p.old t s.streams left x ≡ true

  -- what is known before: what was said of each row's stream, and which tables are stored anew
  pub record HaveStood : Type 0 where
    pub stood : (table : List ℕ) (key : List Value) (n : List ℕ) (at : row_stream table key ≡ Some n) → IsNewRow p t is names table key n
        → HasStood (stream_at n p.new.streams) table key n at (change_with p.old t passing) told s
    pub of_new : (n bytes : List ℕ) → stream_at n t.streams ≡ Some bytes → stream_at n p.new.streams ≡ Some bytes
    pub columns : AllByRecursion (λ name. HasNewColumns p.old p.new name (table_in_hand d told name)) (told_names p.new)
    pub anew : AllByRecursion (λ (e : TableOfRecords). is_schema_table e.0 ≡ false → is_anew s e.0 ≡ true) t.tables
    pub gone : (name : List ℕ) → is_schema_table name ≡ false → has_table name d ≡ true → has_table name p.new.database ≡ false → is_gone (table_in_hand d told name).standing ≡ true

  module _ (known : HaveStood) where
    -- a row of the new package
    row_by : (table : List ℕ) (columns : List ColumnDef) (key : List Value) (row : RowInHand) (o : Option (List ℕ)) → row_stream table key ≡ o
        → ((n : List ℕ) → row_stream table key ≡ Some n → (stream_in_hand p.old.streams (table_change table columns t passing) key row.stream ≡ stream_at n p.new.streams)
        × IsOf t n (heard n s.streams) × Agrees t (stream_at n p.new.streams) n row.stream (heard n s.streams))
        → option_map_or (has_its_stream p.old t s.streams left table key row.stream) o true ≡ true
    row_by table columns key row None at facts = refl
    row_by table columns key row (Some n) at facts =
        let q = facts n at in
        agrees_by p t s.streams left table columns passing key n at (known.of_new n) row.stream (heard n s.streams) refl
        (left_heard n (of_no_table table key n at) p.old long s) q.1 q.0 q.2

    -- A TABLE THAT IS STORED ANEW
    abbrev StandsAnew : TableAnew → Type 0
    StandsAnew x = (key : List Value) (n : List ℕ) → row_stream x.name key ≡ Some n → IsNewRow p t is names x.name key n
        → IsOf t n (heard n s.streams) × RowAgrees t (stream_at n p.new.streams) n (find key_cmp key x.rows) (heard n s.streams)

    each_stands : (xs : List TableAnew)
        → ((table : List ℕ) (key : List Value) (n : List ℕ) → row_stream table key ≡ Some n → IsNewRow p t is names table key n → IsOf t n (heard n s.streams)
        × AllByRecursion (λ (x : TableAnew). x.name ≡ table → RowAgrees t (stream_at n p.new.streams) n (find key_cmp key x.rows) (heard n s.streams)) xs)
        → AllByRecursion StandsAnew xs
    each_stands [] g = tt
    each_stands (x ∷ xs) g = (
      (λ key n at row. let q = g x.name key n at row in (q.0, q.1.0 refl)),
      each_stands xs (λ table key n at row. let q = g table key n at row in (q.0, q.1.1)),
    )

    all_stand : AllByRecursion StandsAnew s.tables
    all_stand = each_stands s.tables (λ table key n at row. let h = known.stood table key n at row in (h.of, h.rows))

    alike_there : (change_columns : List ColumnDef) (table : List ℕ) (places : List Place) (key : List Value) (row : RowInHand) (o : Option RowInHand) (q : Option ToldRow) → o ≡ Some row
        → AreAlike p.old.streams (table_change table change_columns t passing) places key o q
        → (other : ToldRow) × (q ≡ Some other) × HasValuesOf p.old.streams (table_change table change_columns t passing) places key row other
    alike_there change_columns table places key row None q is_row h = none_is is_row
    alike_there change_columns table places key row (Some r) None is_row h = absurd h
    alike_there change_columns table places key row (Some r) (Some other) is_row h =
        (other, refl, subst (λ (x : RowInHand). HasValuesOf p.old.streams (table_change table change_columns t passing) places key x other) (some_is r row is_row) h)

    module _ (x : TableAnew) (places : List Place) (stands : StandsAnew x) (some : has_streams x.columns ≡ true) (new_rows : HasNewRows p t passing places x) where
      new_streams : has_streams (columns_in_table p.new x.name) ≡ true
      new_streams = sym (same_streams x.columns (columns_in_table p.new x.name) new_rows.0) ∙ some

      there_by : (o : Option TableCells) → has_streams (unwrap_or (option_map (λ t. t.columns) o) []) ≡ true → is_some o ≡ true
      there_by None h = yes_is_no false h refl
      there_by (Some cells) h = refl

      among : IsNamed p x.name
      among = by_test (is_schema_table x.name)
          (λ system. yes_is_no (has_streams (columns_in_table p.new x.name)) new_streams (names.lists_too x.name system))
          (λ plain. new_among p t is can names x.name plain (there_by (table_at x.name p.new.database) new_streams))

      one_row_agrees : (e : List Value × RowInHand) → find key_cmp e.0 x.rows ≡ Some e.1 → row_agrees p.old t s.streams left x.name e ≡ true
      one_row_agrees e found =
          let (other, is_other, has) = alike_there x.columns x.name places e.0 e.1 (find key_cmp e.0 x.rows) (find key_cmp e.0 (told_rows p.new x.name 0)) found (new_rows.1.each e.0) in
          row_by x.name x.columns e.0 e.1 (row_stream x.name e.0) refl
          (λ n at. let row : IsNewRow p t is names x.name e.0 n = record { among = among; streams = new_streams; there = ap (λ (o : Option ToldRow). is_some o) is_other; at = at } in
          let q = stands e.0 n at row in (
            has.stream some ∙ stream_told p.new x.name new_streams e.0 other 0 is_other ∙ ap (option_and_then (λ (m : List ℕ). stream_at m p.new.streams)) at,
            q.0,
            subst (λ (o : Option RowInHand). RowAgrees t (stream_at n p.new.streams) n o (heard n s.streams)) found q.1,
          ))

      rows_agree : (es : Rows) → AllByRecursion (λ (e : List Value × RowInHand). find key_cmp e.0 x.rows ≡ Some e.1) es → AllByRecursion (λ (e : List Value × RowInHand). row_agrees p.old t s.streams left x.name e ≡ true) es
      rows_agree [] h = tt
      rows_agree (e ∷ es) h = (one_row_agrees e h.0, rows_agree es h.1)

      whole_agrees : list_all (row_agrees p.old t s.streams left x.name) x.rows ≡ true
      whole_agrees = all_true (row_agrees p.old t s.streams left x.name) x.rows (rows_agree x.rows (each_row x.rows new_rows.1.sorted))

    anew_agrees : (places : List Place) (x : TableAnew) → StandsAnew x → HasNewRows p t passing places x → TableAgrees x
    anew_agrees places x stands new_rows = by_test (has_streams x.columns)
        (λ some. ap (λ b. not b || list_all (row_agrees p.old t s.streams left x.name) x.rows) some ∙ whole_agrees x places stands some new_rows)
        (λ none. ap (λ b. not b || list_all (row_agrees p.old t s.streams left x.name) x.rows) none)

    plain_agrees : (x : TableAnew) → has_streams x.columns ≡ false → TableAgrees x
    plain_agrees x none = ap (λ b. not b || list_all (row_agrees p.old t s.streams left x.name) x.rows) none

    pub anew_agree : (places : List Place) (systems done : List TableAnew) → AllByRecursion StandsAnew (systems ++ done) → AllByRecursion (λ (x : TableAnew). has_streams x.columns ≡ false) systems
        → AllByRecursion (HasNewRows p t passing places) done → AllByRecursion TableAgrees (systems ++ done)
    anew_agree places [] [] stands plain rows = tt
    anew_agree places [] (x ∷ xs) stands plain rows = (anew_agrees places x stands.0 rows.0, anew_agree places [] xs stands.1 plain rows.1)
    anew_agree places (x ∷ xs) done stands plain rows = (plain_agrees x plain.0, anew_agree places xs done stands.1 plain.1 rows)

    -- A TABLE THAT STAYS
    module _ (name : List ℕ) (plain : is_schema_table name ≡ false) (there : has_table name d ≡ true) (not_anew : is_anew s name ≡ false) (named : IsNamed p name) (without : records_for name t ≡ None)
        (some : has_streams (columns_in_table p.old name) ≡ true) where
      abbrev added : ℕ
      added = length (columns_in_table p.new name) - columns_before d name

      has_new : HasNewColumns p.old p.new name (table_in_hand d told name)
      has_new = at_name (λ m. HasNewColumns p.old p.new m (table_in_hand d told m)) name (told_names p.new) known.columns named

      package_is : (b : Bool) → b ≡ true → (standing : Standing) → StandsAs b standing → columns_of_package d name standing ≡ columns_in_table p.old name
      package_is true h stands.Kept stood = refl
      package_is true h (stands.Found next) stood = refl
      package_is true h stands.Added stood = absurd stood
      package_is true h stands.Gone stood = absurd stood
      package_is false h standing stood = yes_is_no false h refl

      streams_too : has_streams (columns_in_table p.new name) ≡ true
      streams_too =
          let now = table_in_hand d told name in
          sym (same_streams (columns_in_hand d name now) (columns_in_table p.new name) has_new.columns)
          ∙ streams_beside (columns_of_package d name now.standing) now.added
          ∙ ap (λ (l : List ColumnDef). has_streams l || has_streams now.added) (package_is (has_table name d) there now.standing has_new.stands)
          ∙ ap (λ b. b || has_streams now.added) some

      same_rows : told_rows p.old name added ≡ told_rows p.new name 0
      same_rows = rw there at ((at_name (Stays p t) name (told_names p.new) (tables_without_records_stay p t is can) named without).0)

      staying_row : (key : List Value) → is_some (find key_cmp key (told_rows p.old name added)) ≡ true → (cells : List ValueRef)
          → option_map_or (has_its_stream p.old t s.streams left name key AsBefore) (row_stream name key) true ≡ true
      staying_row key in_old cells =
          let (other, found) = row_there (find key_cmp key (told_rows p.old name added)) in_old in
          let found_new : find key_cmp key (told_rows p.new name 0) ≡ Some other = ap (λ (l : ToldRows). find key_cmp key l) (sym same_rows) ∙ found in
          row_by name (columns_in_table p.old name) key (record { cells = cells; stream = AsBefore }) (row_stream name key) refl
          (λ n at. let row : IsNewRow p t is names name key n = record { among = named; streams = streams_too; there = ap (λ (o : Option ToldRow). is_some o) found_new; at = at } in
          let h = known.stood name key n at row in (
            sym (stream_told p.old name some key other added found) ∙ stream_told p.new name streams_too key other 0 found_new ∙ ap (option_and_then (λ (m : List ℕ). stream_at m p.new.streams)) at,
            h.of,
            h.quiet not_anew,
          ))

      abbrev staying : List ValueRef → List Value × RowInHand
      staying row = keyed (columns_in_table p.old name) d.pool.places (plain_row row)

      staying_rows : (rows : List (List ValueRef)) → AllByRecursion (λ (row : List ValueRef). is_some (find key_cmp (key_of (columns_in_table p.old name) (row_values d.pool.places row)) (told_rows p.old name added)) ≡ true) rows
          → AllByRecursion (λ (e : List Value × RowInHand). row_agrees p.old t s.streams left name e ≡ true) (map staying rows)
      staying_rows [] h = tt
      staying_rows (row ∷ rows) h = (staying_row (key_of (columns_in_table p.old name) (row_values d.pool.places row)) h.0 row, staying_rows rows h.1)

      staying_all : list_all (row_agrees p.old t s.streams left name) (map staying (system_rows d name)) ≡ true
      staying_all = all_true (row_agrees p.old t s.streams left name) (map staying (system_rows d name)) (staying_rows (system_rows d name) (rows_there p.old name added))

    -- a table of which there are records is stored anew
    found_anew : (name : List ℕ) (bytes : List ℕ) (es : List TableOfRecords) → is_schema_table name ≡ false → find list_cmp name es ≡ Some bytes
        → AllByRecursion (λ (e : TableOfRecords). is_schema_table e.0 ≡ false → is_anew s e.0 ≡ true) es → is_anew s name ≡ true
    found_anew name bytes [] plain found h = none_is found
    found_anew name bytes (e ∷ es) plain found h = by_test (eq_by_cmp list_cmp name e.0)
        (λ b. subst (λ (m : List ℕ). is_schema_table m ≡ false → is_anew s m ≡ true) (sym (exact_names name e.0 b)) h.0 plain)
        (λ b. found_anew name bytes es plain (rw b at found) h.1)

    no_records_by : (name : List ℕ) (o : Option (List ℕ)) → records_for name t ≡ o → is_schema_table name ≡ false → is_anew s name ≡ false → o ≡ None
    no_records_by name None found plain none = refl
    no_records_by name (Some bytes) found plain none = yes_is_no (is_anew s name) (found_anew name bytes t.tables plain found known.anew) none

    abbrev staying_of : List ℕ → Option TableCells → TableAnew
    staying_of name o = record {
      name = name;
      columns = unwrap_or (option_map (λ t. t.columns) o) [];
      rows = map (λ row. keyed (unwrap_or (option_map (λ t. t.columns) o) []) d.pool.places (plain_row row)) (unwrap_or (option_map rows_of o) []);
    }

    stays_new : (name : List ℕ) → is_schema_table name ≡ false → has_table name d ≡ true → is_gone (table_in_hand d told name).standing ≡ false → IsNamed p name
    stays_new name plain there stays_there = by_test (has_table name p.new.database)
        (λ b. new_among p t is can names name plain b)
        (λ b. yes_is_no (is_gone (table_in_hand d told name).standing) (known.gone name plain there b) stays_there)

    staying_agrees : (name : List ℕ) → has_table name d ≡ true → is_anew s name ≡ false → is_gone (table_in_hand d told name).standing ≡ false → TableAgrees (staying_of name (table_at name d))
    staying_agrees name there none stays_there =
        let rows = map (λ row. keyed (columns_in_table p.old name) d.pool.places (plain_row row)) (system_rows d name) in
        by_test (has_streams (columns_in_table p.old name))
        (λ some. let plain : is_schema_table name ≡ false = by_test (is_schema_table name) (λ b. yes_is_no (has_streams (columns_in_table p.old name)) some (names.lists name b)) (λ b. b) in
        ap (λ b. not b || list_all (row_agrees p.old t s.streams left name) rows) some
        ∙ staying_all name plain there none (stays_new name plain there stays_there) (no_records_by name (records_for name t) refl plain none) some)
        (λ f. ap (λ b. not b || list_all (row_agrees p.old t s.streams left name) rows) f)

    one_staying : (e : Entry) → table_at e.0 d ≡ Some e.1 → stays d told s e.0 ≡ true → TableAgrees (table_staying d e)
    one_staying e found stays_there =
        let q = and_parts (not (is_anew s e.0)) (not (is_gone (table_in_hand d told e.0).standing)) stays_there in
        subst (λ (o : Option TableCells). TableAgrees (staying_of e.0 o)) found
        (staying_agrees e.0 (ap (λ (o : Option TableCells). is_some o) found) (not_true (is_anew s e.0) q.0) (not_true (is_gone (table_in_hand d told e.0).standing) q.1))

    all_staying : (es : List Entry) → AllByRecursion (λ (e : Entry). table_at e.0 d ≡ Some e.1) es → AllByRecursion TableAgrees (map (table_staying d) (filter (λ e. stays d told s e.0) es))
    all_staying [] h = tt
    all_staying (e ∷ es) h = by_test (stays d told s e.0)
        (λ b. rw b (one_staying e h.0 b, all_staying es h.1))
        (λ b. rw b (all_staying es h.1))

    -- so all rows agree
    pub all_agree : (places : List Place) (systems done : List TableAnew) → s.tables ≡ systems ++ done → AllByRecursion (λ (x : TableAnew). has_streams x.columns ≡ false) systems
        → AllByRecursion (HasNewRows p t passing places) done → streams_agree p.old t told s long ≡ true
    all_agree places systems done tables plain rows =
        let anew = subst (AllByRecursion TableAgrees) (sym tables) (anew_agree places systems done (subst (AllByRecursion StandsAnew) tables all_stand) plain rows) in
        all_true (table_agrees p.old t s.streams left) (tables_left d told s)
        (all_joined TableAgrees s.tables (map (table_staying d) (filter (λ e. stays d told s e.0) d.tables)) anew (all_staying d.tables (each_table d.tables names.apart)))
