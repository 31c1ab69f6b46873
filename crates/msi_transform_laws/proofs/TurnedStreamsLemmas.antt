-- What applying the records of tables in turn says of the stream of one row.
use Rattle.std.proofs.Common.{◌≡◌, ℕ, ◌+◌, Bool, true, false, not, ◌||◌, List, [], ◌∷◌, ◌++◌, map, Option, Some, None, is_some, Result, Ok, Err, T, refl, sym, ap, subst, ◌∙◌}
use Rattle.std.specs.Prelude.{bytes_eq, if◌then◌else◌}
use Rattle.std.specs.Cmp.Lexicographic.{bytes_decides}
use Rattle.std.specs.FinMap.{find, is_sorted}
use Rattle.std.specs.FinMap.Entries.{below_all}
use Rattle.std.specs.List.{AllByRecursion, flat_map, list_any}
use Rattle.std.specs.Option.{option_map_or}
use Rattle.std.specs.Ordering.{eq_by_cmp, is_lt}
use Rattle.std.proofs.lemmas.List.Folds.{list_any-append}
use Rattle.std.proofs.lemmas.Map.Text.{is_eq-slice_cmp}
use Rattle.msi_base.specs.Lists.{list_cmp}
use Rattle.msi_base.specs.declared.errors.ErrorKind.{ErrorKind}
use Rattle.msi_base.specs.declared.errors.ErrorKind.TheVariants.{InvalidData}
use Rattle.msi_base.specs.Refusals.{unless_refused}
use Rattle.msi_base.proofs.BoolLemmas.{T_parts, by_test, yes_is_no}
use Rattle.msi_base.proofs.OptionLemmas.{none_is, some_is}
use Rattle.msi_table_cells.specs.declared.cell.ValueRef.{ValueRef}
use Rattle.msi_table_cells.specs.CellValues.{row_values}
use Rattle.msi_table_cells.specs.KeyOrder.{key_of}
use Rattle.msi_table_values.specs.declared.value.Value.{Value}
use Rattle.msi_table_values.specs.Columns.{ColumnDef}
use Rattle.msi_database_schema.specs.System.{is_schema_table}
use Rattle.msi_database_changes.specs.Database.{Database}
use Rattle.msi_database_changes.specs.declared.storing.Stored.{Stored}
use Rattle.msi_database_changes.proofs.steps.RefusedLemmas.{not_refused}
use Rattle.msi_database_storage.specs.Streams.{stream_at}
use Rattle.msi_transform_records.specs.Records.{records_in}
use Rattle.msi_transform_records.specs.declared.records.Record.{Record}
use Rattle.msi_transform_records.specs.declared.shape.Shape.{Shape}
use Rattle.msi_transform.specs.Transforms.{TransformDef, record_key, shapes_of}
use Rattle.msi_transform_rows.specs.KeyOfRows.{key_cmp}
use Rattle.msi_transform_rows.specs.RecordRefusals.{Refusal, at_record, in_turn_from, ◌>>=◌}
use Rattle.msi_transform_rows.specs.RowChanges.{Rows, RowsInHand, TableChange, keyed, record_applied}
use Rattle.msi_transform_rows.specs.RowStreams.{has_streams, row_stream, row_stream_gone, stored_as}
use Rattle.msi_transform_rows.specs.TableRecords.{all_applied, read_for}
use Rattle.msi_transform_rows.specs.declared.row.RowInHand.{RowInHand}
use Rattle.msi_transform_rows.specs.declared.row.RowStream.{RowStream}
use Rattle.msi_transform_rows.specs.declared.row.RowStream.TheVariants.{AsBefore, Gone}
use Rattle.msi_transform_schema.specs.SchemaChanges.{SchemaChange, TablesTold, columns_in_hand, columns_of_package, rows_of_package, table_in_hand}
use Rattle.msi_transform_schema.specs.TablesInHand.{TableInHand}
use Rattle.msi_transform_applying.specs.Applying.{TableAnew, TablesInHand, change_of, gains_streams, is_anew, lengthened_row, null_in, rows_begun, rows_in_hand, streams_begun, table_applied, table_or_schema, table_refusals, tables_in_turn, with_anew}
use Rattle.msi_transform_applying.proofs.OtherStreamsLemmas.{passed}
use Rattle.msi_transform_laws.specs.TablesChanged.{TableOfRecords}
use Rattle.msi_transform_laws.proofs.CarriedOutLemmas.{less, same}
use Rattle.msi_transform_laws.proofs.HeardStreamsLemmas.{Heard, heard, heard_joined, heard_once, later, nothing_before, some_later}
use Rattle.msi_transform_laws.proofs.NewTablesLemmas.{all_joined}
use Rattle.msi_transform_laws.proofs.RecordStreamsLemmas.{Agrees, IsOf, IsSaid, Quiet, RowAgrees, did_record, of_later, quiet_later, row_later, tied}
use Rattle.msi_transform_laws.proofs.SchemaListsLemmas.{neither}
use Rattle.msi_transform_laws.proofs.TablesChangedLemmas.{found_by_key}

or_true : (b : Bool) → (b || true) ≡ true
or_true true = refl
or_true false = refl

-- RECORDS IN TURN, of which something holds

abbrev answered : {A : Type 0} → A → Result A Refusal
answered x = Ok x

pub same_answer : {A : Type 0} (x y : A) → answered x ≡ answered y → x ≡ y
same_answer x y e = cc

recorded : {A : Type 0} (table n : ℕ) (r : Result A ErrorKind) (y : A) → at_record table n r ≡ Ok y → r ≡ Ok y
recorded table n (Ok x) y e = ap Ok (same_answer x y e)
recorded table n (Err kind) y e = cc

read_is : (table k : ℕ) (o : Option (List Record)) (rs : List Record) → option_map_or Ok o (at_record table k (Err InvalidData)) ≡ answered rs → o ≡ Some rs
read_is table k None rs e = cc
read_is table k (Some x) rs e = ap Some (same_answer x rs e)

module _ {S : Type 0} (P : S → Type 0) (K : Record → Type 0) (table : ℕ) (step : S → Record → Result S ErrorKind) (each : (s : S) (r : Record) (u : S) → K r → step s r ≡ Ok u → P s → P u) where
  turns_keep : (n : ℕ) (s u : S) (rs : List Record) → AllByRecursion K rs → in_turn_from table step n s rs ≡ Ok u → P s → P u
  turns_keep n s u [] all is h = subst P (same_answer s u is) h
  turns_keep n s u (r ∷ rs) all is h =
      let (v, one, others) = passed (at_record table n (step s r)) (λ (v : S). in_turn_from table step (n + 1) v rs) u is in
      turns_keep (n + 1) v u rs all.1 others (each s r v all.0 (recorded table n (step s r) v one) h)

  pub records_keep : (by : TransformDef) (shapes : List Shape) (bytes : List ℕ) (s u : S) → ((rs : List Record) → records_in shapes by.pool bytes ≡ Some rs → AllByRecursion K rs)
      → all_applied table by shapes bytes step s ≡ Ok u → P s → P u
  records_keep by shapes bytes s u all is h =
      let (records, read, ran) = passed (read_for table by shapes bytes) (λ (rs : List Record). in_turn_from table step 0 s rs) u is in
      turns_keep 0 s u records (all records (read_is table _ (records_in shapes by.pool bytes) records read)) ran h

-- A TABLE THAT IS CHANGED

-- the tables that are stored anew then
abbrev pub IsNext : TablesInHand → List ℕ → TablesInHand → Type 0
IsNext s name v = (m : List ℕ) → is_anew v m ≡ (is_anew s m || (bytes_eq name m || false))

module _ (change : SchemaChange) (told : TablesTold) where
  abbrev in_hand : List ℕ → TableInHand
  in_hand name = table_in_hand change.database told name

  abbrev columns_then : List ℕ → List ColumnDef
  columns_then name = columns_in_hand change.database name (in_hand name)

  next_anew : (e : TableOfRecords) (s : TablesInHand) (r : RowsInHand) → IsNext s e.0 (with_anew e.0 (columns_then e.0) s r)
  next_anew e s r m = list_any-append (λ (t : TableAnew). bytes_eq t.name m) s.tables (record { name = e.0; columns = columns_then e.0; rows = r.rows } ∷ [])

  module _ (e : TableOfRecords) (number : ℕ) (s u : TablesInHand) (is : table_applied change told number s e ≡ Ok u) where
    abbrev start : RowsInHand
    start = rows_in_hand change.database e.0 (in_hand e.0) s

    abbrev Ran : Type 0
    Ran = (r : RowsInHand) × (all_applied number change.by (shapes_of (columns_then e.0)) e.1 (record_applied (change_of change e.0 (in_hand e.0))) start ≡ Ok r) × (with_anew e.0 (columns_then e.0) s r ≡ u)

    has_run : Ran
    has_run =
        let refusals = table_refusals change.database e.0 (in_hand e.0) in
        let applies = all_applied number change.by (shapes_of (columns_then e.0)) e.1 (record_applied (change_of change e.0 (in_hand e.0))) in
        let (r, ran, ends) = passed (at_record number 0 (unless_refused refusals start) >>= applies) (λ (r : RowsInHand). Ok (with_anew e.0 (columns_then e.0) s r)) u is in
        let (begun, unrefused, records) = passed (at_record number 0 (unless_refused refusals start)) applies r ran in
        let same_start : start ≡ begun = (not_refused refusals start begun (recorded number 0 _ begun unrefused)).1 in
        (r, subst (λ (x : RowsInHand). applies x ≡ Ok r) (sym same_start) records, same_answer (with_anew e.0 (columns_then e.0) s r) u ends)

  -- each table with records is stored anew
  abbrev AreAnew : TablesInHand → List TableOfRecords → Type 0
  AreAnew u es = AllByRecursion (λ (e : TableOfRecords). is_schema_table e.0 ≡ false → is_anew u e.0 ≡ true) es

  abbrev Keeps : TablesInHand → TablesInHand → Type 0
  Keeps s u = (m : List ℕ) → is_anew s m ≡ true → is_anew u m ≡ true

  one_anew : (e : TableOfRecords) (number : ℕ) (s v : TablesInHand) (b : Bool) → is_schema_table e.0 ≡ b → (if b then Ok s else table_applied change told number s e) ≡ Ok v
      → Keeps s v × (is_schema_table e.0 ≡ false → is_anew v e.0 ≡ true)
  one_anew e number s v true system is = (subst (Keeps s) (same_answer s v is) (λ m h. h), (λ plain. yes_is_no (is_schema_table e.0) system plain))
  one_anew e number s v false plain is =
      let (r, ran, ends) = has_run e number s v is in
      let next = subst (IsNext s e.0) ends (next_anew e s r) in
      ((λ m h. next m ∙ ap (λ b. b || (bytes_eq e.0 m || false)) h), (λ _. next e.0 ∙ (rw ((bytes_decides e.0 e.0).1 refl) (or_true (is_anew s e.0)))))

  pub all_anew : (es : List TableOfRecords) (number : ℕ) (s u : TablesInHand) → tables_in_turn change told number s es ≡ Ok u → Keeps s u × AreAnew u es
  all_anew [] number s u is = (subst (Keeps s) (same_answer s u is) (λ m h. h), tt)
  all_anew (e ∷ es) number s u is =
      let (v, one, others) = passed (table_or_schema change told number s e) (λ (v : TablesInHand). tables_in_turn change told (number + 1) v es) u is in
      let first = one_anew e number s v (is_schema_table e.0) refl one in
      let rest = all_anew es (number + 1) v u others in
      ((λ m h. rest.0 m (first.0 m h)), ((λ plain. rest.0 e.0 (first.1 plain)), rest.1))

-- WHAT IS SAID OF A ROW'S STREAM

once_of : (by : TransformDef) (n : List ℕ) (e : Stored) → ((bytes : List ℕ) → e.bytes ≡ Some bytes → stream_at e.name by.streams ≡ Some bytes) → IsOf by n (heard_once n e)
once_of by n e of bytes h = by_test (bytes_eq e.name n)
    (λ t. ap (λ (m : List ℕ). stream_at m by.streams) (sym ((bytes_decides e.name n).0 t)) ∙ of bytes (some_is e.bytes (Some bytes) (rw t at h)))
    (λ t. none_is (rw t at h))

module _ (wanted : Option (List ℕ)) (n : List ℕ) (change : TableChange) (key : List Value) where
  said_of : (said : List Stored) → AllByRecursion (IsSaid change key) said → IsOf change.by n (heard n said)
  said_of [] are = λ bytes h. none_is h
  said_of (e ∷ es) are = of_later change.by n (heard n es) (heard_once n e) (said_of es are.1) (once_of change.by n e are.0.bytes)

  said_quiet : (said : List Stored) → AllByRecursion (IsSaid change key) said → (has_streams change.columns ≡ true → is_some wanted ≡ true → row_stream change.name key ≡ Some n → ⊥)
      → Quiet change.by wanted n (heard n said)
  said_quiet [] are none s = refl
  said_quiet (e ∷ es) are none s = by_test (bytes_eq e.name n)
      (λ t. absurd (none are.0.has s (are.0.at ∙ ap Some ((bytes_decides e.name n).0 t))))
      (λ t. rw t (nothing_before (heard n es) ∙ said_quiet es are.1 none s))

some_first : (a b : Heard) → is_some a ≡ true → is_some (later a b) ≡ true
some_first None b h = yes_is_no false h refl
some_first (Some bytes) b h = refl

-- a row's stream, n, of the table of a name; wanted or not
module _ (wanted : Option (List ℕ)) (table : List ℕ) (key : List Value) (n : List ℕ) (at : row_stream table key ≡ Some n) where
  -- where it is wanted, no row of another name or key has it
  abbrev pub IsAlone : List ℕ → List Value → Type 0
  IsAlone other k = is_some wanted ≡ true → row_stream other k ≡ Some n → (other ≡ table) × (key ≡ k)

  -- what stays with each thing that is said of others
  abbrev IsClosed : TransformDef → (Heard → Type 0) → Type 0
  IsClosed by Q = (x h : Heard) → IsOf by n x → Quiet by wanted n x → Q h → Q (later x h)

  -- RECORDS OF ONE TABLE

  module _ (change : TableChange) where
    abbrev Alone : Record → Type 0
    Alone r = has_streams change.columns ≡ true → IsAlone change.name (record_key change.by (shapes_of change.columns) r)

    other_step : (change.name ≡ table → ⊥) → (Q : Heard → Type 0) → IsClosed change.by Q → (s : RowsInHand) (r : Record) (u : RowsInHand) → Alone r → record_applied change s r ≡ Ok u
        → Q (heard n s.streams) → Q (heard n u.streams)
    other_step apart Q closed s r u alone is q =
        let k = record_key change.by (shapes_of change.columns) r in
        let did = did_record change s r u is in
        subst Q (sym (ap (heard n) did.streams ∙ heard_joined n s.streams did.said))
        (closed (heard n did.said) (heard n s.streams) (said_of wanted n change k did.said did.are) (said_quiet wanted n change k did.said did.are (λ has w e. apart (alone has w e).0)) q)

    abbrev Own : RowsInHand → Type 0
    Own s = IsOf change.by n (heard n s.streams) × RowAgrees change.by wanted n (find key_cmp key s.rows) (heard n s.streams)

    own_step : change.name ≡ table → has_streams change.columns ≡ true → (s : RowsInHand) (r : Record) (u : RowsInHand) → Alone r → record_applied change s r ≡ Ok u → Own s → Own u
    own_step name_is has s r u alone is own =
        let k = record_key change.by (shapes_of change.columns) r in
        let did = did_record change s r u is in
        let x = heard n did.said in
        let h = heard n s.streams in
        let whole : heard n u.streams ≡ later x h = ap (heard n) did.streams ∙ heard_joined n s.streams did.said in
        let rows : RowAgrees change.by wanted n (find key_cmp key u.rows) (later x h) = by_test (eq_by_cmp key_cmp key k)
        (λ t. let here : k ≡ key = sym (same key k t) in
        subst (λ (q : List Value). RowAgrees change.by wanted n (find key_cmp q s.rows) h → RowAgrees change.by wanted n (find key_cmp q u.rows) (later x h)) here
        (did.own wanted n (ap (row_stream change.name) here ∙ ap (λ (m : List ℕ). row_stream m key) name_is ∙ at) has h) own.1)
        (λ f. subst (λ (o : Option RowInHand). RowAgrees change.by wanted n o (later x h)) (sym (did.others key f))
        (row_later change.by wanted n (find key_cmp key s.rows) x h
        (said_quiet wanted n change k did.said did.are (λ some w e. yes_is_no (eq_by_cmp key_cmp key k) (ap (λ (q : List Value). eq_by_cmp key_cmp key q) (sym (alone some w e).1) ∙ tied key) f)) own.1)) in
        (subst (IsOf change.by n) (sym whole) (of_later change.by n x h (said_of wanted n change k did.said did.are) own.0), subst (RowAgrees change.by wanted n (find key_cmp key u.rows)) (sym whole) rows)

  -- THE ROWS WITH WHICH A TABLE BEGINS, whose streams are gone where it gets its first column of them

  gone_once : (by : TransformDef) (o : Option (List ℕ)) → IsOf by n (heard n (stored_as o None))
  gone_once by None = λ bytes h. none_is h
  gone_once by (Some m) = once_of by n (record { name = m; bytes = None }) (λ bytes e. none_is e)

  quiet_once : (o : Option (List ℕ)) → (o ≡ Some n → ⊥) → heard n (stored_as o None) ≡ None
  quiet_once None none = refl
  quiet_once (Some m) none = by_test (bytes_eq m n)
      (λ t. absurd (none (ap Some ((bytes_decides m n).0 t))))
      (λ t. rw t refl)

  heard_gone : (o : Option (List ℕ)) → o ≡ Some n → heard n (stored_as o None) ≡ Some None
  heard_gone o is = ap (λ (x : Option (List ℕ)). heard n (stored_as x None)) is ∙ ap (λ b. later None (if b then Some None else None)) ((bytes_decides n n).1 refl)

  -- rows whose streams go, each by its key
  module _ {X : Type 0} (name : List ℕ) (key_at : X → List Value) where
    abbrev gone_of : List X → List Stored
    gone_of rows = flat_map (λ row. row_stream_gone name (key_at row)) rows

    pub all_gone_of : (by : TransformDef) (rows : List X) → IsOf by n (heard n (gone_of rows))
    all_gone_of by [] = λ bytes h. none_is h
    all_gone_of by (row ∷ rows) = subst (IsOf by n) (sym (heard_joined n (row_stream_gone name (key_at row)) (gone_of rows)))
        (of_later by n (heard n (gone_of rows)) (heard n (row_stream_gone name (key_at row))) (all_gone_of by rows) (gone_once by (row_stream name (key_at row))))

    pub all_gone_quiet : (rows : List X) → AllByRecursion (λ (row : X). row_stream name (key_at row) ≡ Some n → ⊥) rows → heard n (gone_of rows) ≡ None
    all_gone_quiet [] none = refl
    all_gone_quiet (row ∷ rows) none =
        heard_joined n (row_stream_gone name (key_at row)) (gone_of rows)
        ∙ ap (λ (h : Heard). later h (heard n (row_stream_gone name (key_at row)))) (all_gone_quiet rows none.1)
        ∙ quiet_once (row_stream name (key_at row)) none.0

    first_heard : (row : X) (rows : List X) → row_stream name (key_at row) ≡ Some n → is_some (heard n (gone_of (row ∷ rows))) ≡ true
    first_heard row rows is =
        ap (λ (h : Heard). is_some h) (heard_joined n (row_stream_gone name (key_at row)) (gone_of rows))
        ∙ some_later (heard n (gone_of rows)) (heard n (row_stream_gone name (key_at row))) (ap (λ (h : Heard). is_some h) (heard_gone (row_stream name (key_at row)) is))

    rest_heard : (row : X) (rows : List X) → is_some (heard n (gone_of rows)) ≡ true → is_some (heard n (gone_of (row ∷ rows))) ≡ true
    rest_heard row rows h =
        ap (λ (h : Heard). is_some h) (heard_joined n (row_stream_gone name (key_at row)) (gone_of rows))
        ∙ some_first (heard n (gone_of rows)) (heard n (row_stream_gone name (key_at row))) h

  -- the rows of the table itself
  module _ (d : Database) (name : List ℕ) (name_is : name ≡ table) (own_columns added : List ColumnDef) where
    abbrev key_in : List ValueRef → List Value
    key_in row = key_of own_columns (row_values d.pool.places row)

    abbrev key_then : List ValueRef → List Value
    key_then row = key_of (own_columns ++ added) (row_values d.pool.places (row ++ map null_in added))

    abbrev begun : List (List ValueRef) → Rows
    begun rows = map (keyed (own_columns ++ added) d.pool.places) (map (lengthened_row own_columns added) rows)

    stream_is : (rows : List (List ValueRef)) (row : RowInHand) → find key_cmp key (begun rows) ≡ Some row → row.stream ≡ (if gains_streams own_columns added then Gone else AsBefore)
    stream_is [] row h = none_is h
    stream_is (r ∷ rs) row h = by_test (eq_by_cmp key_cmp key (key_then r))
        (λ t. ap (λ (x : RowInHand). x.stream) (sym (some_is (lengthened_row own_columns added r) row (rw t at h))))
        (λ t. stream_is rs row (rw t at h))

    begun_heard : (rows : List (List ValueRef)) → AllByRecursion (λ (row : List ValueRef). key_then row ≡ key_in row) rows → (row : RowInHand) → find key_cmp key (begun rows) ≡ Some row
        → is_some (heard n (gone_of name key_in rows)) ≡ true
    begun_heard [] keys row h = none_is h
    begun_heard (r ∷ rs) keys row h = by_test (eq_by_cmp key_cmp key (key_then r))
        (λ t. first_heard name key_in r rs (ap (row_stream name) (sym (same key (key_then r) t ∙ keys.0)) ∙ ap (λ (m : List ℕ). row_stream m key) name_is ∙ at))
        (λ t. rest_heard name key_in r rs (begun_heard rs keys.1 row (rw t at h)))

    begun_agrees : (by : TransformDef) (h : Heard) → Quiet by wanted n h → (rows : List (List ValueRef)) → AllByRecursion (λ (row : List ValueRef). key_then row ≡ key_in row) rows
        → (b : Bool) → gains_streams own_columns added ≡ b → (o : Option RowInHand) → find key_cmp key (begun rows) ≡ o
        → RowAgrees by wanted n o (later (heard n (if b then gone_of name key_in rows else [])) h)
    begun_agrees by h quiet rows keys b gains None found = tt
    begun_agrees by h quiet rows keys true gains (Some row) found =
        subst (λ (x : RowStream). Agrees by wanted n x (later (heard n (gone_of name key_in rows)) h)) (sym (stream_is rows row found ∙ ap (λ b. if b then Gone else AsBefore) gains))
        (some_first (heard n (gone_of name key_in rows)) h (begun_heard rows keys row found))
    begun_agrees by h quiet rows keys false gains (Some row) found =
        subst (λ (x : RowStream). Agrees by wanted n x h) (sym (stream_is rows row found ∙ ap (λ b. if b then Gone else AsBefore) gains)) quiet

  -- TABLES IN TURN

  module _ (change : SchemaChange) (told : TablesTold) where
    abbrev d : Database
    d = change.database

    abbrev now : List ℕ → TableInHand
    now name = table_in_hand d told name

    abbrev columns : List ℕ → List ColumnDef
    columns name = columns_in_hand d name (now name)

    abbrev own_columns : List ℕ → List ColumnDef
    own_columns name = columns_of_package d name (now name).standing

    abbrev rows : List ℕ → List (List ValueRef)
    rows name = rows_of_package d name (now name).standing

    abbrev key_before : List ℕ → List ValueRef → List Value
    key_before name row = key_of (own_columns name) (row_values d.pool.places row)

    -- its records tell of its own rows, and so do the rows with which it begins
    pub record IsFit (e : TableOfRecords) : Type 0 where
      pub records : (rs : List Record) → records_in (shapes_of (columns e.0)) change.by.pool e.1 ≡ Some rs
          → AllByRecursion (λ (r : Record). has_streams (columns e.0) ≡ true → IsAlone e.0 (record_key change.by (shapes_of (columns e.0)) r)) rs
      pub begun : gains_streams (own_columns e.0) (now e.0).added ≡ true → AllByRecursion (λ (row : List ValueRef). IsAlone e.0 (key_before e.0 row)) (rows e.0)
      pub keys : AllByRecursion (λ (row : List ValueRef). key_of (columns e.0) (row_values d.pool.places (row ++ map null_in (now e.0).added)) ≡ key_before e.0 row) (rows e.0)
      pub streams : e.0 ≡ table → has_streams (columns e.0) ≡ true

    -- what was said of the row's stream, beside the tables that are stored anew
    abbrev pub RowsStand : List TableAnew → Heard → Type 0
    RowsStand tables h = AllByRecursion (λ (t : TableAnew). t.name ≡ table → RowAgrees change.by wanted n (find key_cmp key t.rows) h) tables

    pub record HasStood (s : TablesInHand) : Type 0 where
      pub of : IsOf change.by n (heard n s.streams)
      pub quiet : is_anew s table ≡ false → Quiet change.by wanted n (heard n s.streams)
      pub rows : RowsStand s.tables (heard n s.streams)

    rows_closed : (x h : Heard) → Quiet change.by wanted n x → (tables : List TableAnew) → RowsStand tables h → RowsStand tables (later x h)
    rows_closed x h quiet [] g = tt
    rows_closed x h quiet (t ∷ ts) g = ((λ e. row_later change.by wanted n (find key_cmp key t.rows) x h quiet (g.0 e)), rows_closed x h quiet ts g.1)

    none_anew : (tables : List TableAnew) (h : Heard) → list_any (λ (t : TableAnew). bytes_eq t.name table) tables ≡ false → RowsStand tables h
    none_anew [] h none = tt
    none_anew (t ∷ ts) h none =
        let q = neither (bytes_eq t.name table) (list_any (λ (t : TableAnew). bytes_eq t.name table) ts) none in
        ((λ e. yes_is_no (bytes_eq t.name table) ((bytes_decides t.name table).1 e) q.0), none_anew ts h q.1)

    module _ (e : TableOfRecords) (fit : IsFit e) (number : ℕ) (s u : TablesInHand) (is : table_applied change told number s e ≡ Ok u) where
      abbrev own_change : TableChange
      own_change = change_of change e.0 (now e.0)

      abbrev started : RowsInHand
      started = rows_in_hand d e.0 (now e.0) s

      abbrev then_anew : RowsInHand → TableAnew
      then_anew r = record { name = e.0; columns = columns e.0; rows = r.rows }

      begun_of : (b : Bool) → IsOf change.by n (heard n (if b then gone_of e.0 (key_before e.0) (rows e.0) else []))
      begun_of true = all_gone_of e.0 (key_before e.0) change.by (rows e.0)
      begun_of false = λ bytes h. none_is h

      begun_quiet : (e.0 ≡ table → ⊥) → (b : Bool) → gains_streams (own_columns e.0) (now e.0).added ≡ b → Quiet change.by wanted n (heard n (if b then gone_of e.0 (key_before e.0) (rows e.0) else []))
      begun_quiet apart false gains w = refl
      begun_quiet apart true gains w = all_gone_quiet e.0 (key_before e.0) (rows e.0) (all_apart (rows e.0) (fit.begun gains))
        where
          all_apart : (rs : List (List ValueRef)) → AllByRecursion (λ (row : List ValueRef). IsAlone e.0 (key_before e.0 row)) rs
              → AllByRecursion (λ (row : List ValueRef). row_stream e.0 (key_before e.0 row) ≡ Some n → ⊥) rs
          all_apart [] alone = tt
          all_apart (r ∷ rs) alone = ((λ found. apart (alone.0 w found).0), all_apart rs alone.1)

      started_heard : heard n started.streams ≡ later (heard n (streams_begun d e.0 (now e.0))) (heard n s.streams)
      started_heard = heard_joined n s.streams (streams_begun d e.0 (now e.0))

      other_table : (e.0 ≡ table → ⊥) → HasStood s → HasStood u × IsNext s e.0 u
      other_table apart stood =
          let (r, ran, ends) = has_run change told e number s u is in
          let Q : Heard → Type 0 = λ h. IsOf change.by n h × (is_anew s table ≡ false → Quiet change.by wanted n h) × RowsStand s.tables h in
          let closed : IsClosed change.by Q = λ x h of quiet q. (of_later change.by n x h of q.0, (λ a. quiet_later change.by wanted n x h quiet (q.1 a)), rows_closed x h quiet s.tables q.2) in
          let gains = gains_streams (own_columns e.0) (now e.0).added in
          let first : Q (heard n started.streams) = subst Q (sym started_heard)
          (closed (heard n (streams_begun d e.0 (now e.0))) (heard n s.streams) (begun_of gains) (begun_quiet apart gains refl) (stood.of, stood.quiet, stood.rows)) in
          let last : Q (heard n r.streams) = records_keep (λ (v : RowsInHand). Q (heard n v.streams)) (Alone own_change) number (record_applied own_change) (other_step own_change apart Q closed)
          change.by (shapes_of (columns e.0)) e.1 started r fit.records ran first in
          let stands : HasStood (with_anew e.0 (columns e.0) s r) = record {
            of = last.0;
            quiet = λ a. last.1 (neither (is_anew s table) (bytes_eq e.0 table || false) (sym (next_anew change told e s r table) ∙ a)).0;
            rows = all_joined (λ (t : TableAnew). t.name ≡ table → RowAgrees change.by wanted n (find key_cmp key t.rows) (heard n r.streams)) s.tables (then_anew r ∷ []) last.2 ((λ same_name. absurd (apart same_name)), tt);
          } in
          (subst HasStood ends stands, subst (IsNext s e.0) ends (next_anew change told e s r))

      own_table : e.0 ≡ table → is_anew s e.0 ≡ false → HasStood s → HasStood u × IsNext s e.0 u
      own_table name_is none stood =
          let (r, ran, ends) = has_run change told e number s u is in
          let none_yet : is_anew s table ≡ false = ap (is_anew s) (sym name_is) ∙ none in
          let gains = gains_streams (own_columns e.0) (now e.0).added in
          let x = heard n (streams_begun d e.0 (now e.0)) in
          let h = heard n s.streams in
          let list = map (keyed (columns e.0) d.pool.places) (rows_begun d e.0 (now e.0)) in
          let row : RowAgrees change.by wanted n (find key_cmp key started.rows) (later x h) =
          subst (λ (o : Option RowInHand). RowAgrees change.by wanted n o (later x h)) (sym (found_by_key key list))
          (begun_agrees d e.0 name_is (own_columns e.0) (now e.0).added change.by h (stood.quiet none_yet) (rows e.0) fit.keys gains refl (find key_cmp key list) refl) in
          let first : Own own_change started = (
            subst (IsOf change.by n) (sym started_heard) (of_later change.by n x h (begun_of gains) stood.of),
            subst (RowAgrees change.by wanted n (find key_cmp key started.rows)) (sym started_heard) row,
          ) in
          let last : Own own_change r = records_keep (Own own_change) (Alone own_change) number (record_applied own_change) (own_step own_change name_is (fit.streams name_is))
          change.by (shapes_of (columns e.0)) e.1 started r fit.records ran first in
          let there : is_anew (with_anew e.0 (columns e.0) s r) table ≡ true =
          next_anew change told e s r table ∙ (rw ((bytes_decides e.0 table).1 name_is, none_yet) refl) in
          let stands : HasStood (with_anew e.0 (columns e.0) s r) = record {
            of = last.0;
            quiet = λ a. yes_is_no (is_anew (with_anew e.0 (columns e.0) s r) table) there a;
            rows = all_joined (λ (t : TableAnew). t.name ≡ table → RowAgrees change.by wanted n (find key_cmp key t.rows) (heard n r.streams)) s.tables (then_anew r ∷ [])
                (none_anew s.tables (heard n r.streams) none_yet) ((λ same_name. last.1), tt);
          } in
          (subst HasStood ends stands, subst (IsNext s e.0) ends (next_anew change told e s r))

      one_table : is_anew s e.0 ≡ false → HasStood s → HasStood u × IsNext s e.0 u
      one_table none stood = by_test (bytes_eq e.0 table)
          (λ t. own_table ((bytes_decides e.0 table).0 t) none stood)
          (λ t. other_table (λ name_is. yes_is_no (bytes_eq e.0 table) ((bytes_decides e.0 table).1 name_is) t) stood)

    abbrev pub NotYet : TablesInHand → List TableOfRecords → Type 0
    NotYet s es = AllByRecursion (λ (e : TableOfRecords). is_schema_table e.0 ≡ false → is_anew s e.0 ≡ false) es

    not_yet : (s v : TablesInHand) (name : List ℕ) → IsNext s name v → (es : List TableOfRecords) → T (below_all list_cmp name es) → NotYet s es → NotYet v es
    not_yet s v name next [] below none = tt
    not_yet s v name next (f ∷ fs) below none =
        let q = T_parts (is_lt (list_cmp name f.0)) (below_all list_cmp name fs) below in
        let apart : bytes_eq name f.0 ≡ false = sym (is_eq-slice_cmp name f.0) ∙ less (list_cmp name f.0) q.0 in
        ((λ plain. next f.0 ∙ (rw (none.0 plain, apart) refl)), not_yet s v name next fs q.1 none.1)

    one_by : (e : TableOfRecords) (es : List TableOfRecords) (number : ℕ) (s v : TablesInHand) (b : Bool) → is_schema_table e.0 ≡ b → (if b then Ok s else table_applied change told number s e) ≡ Ok v
        → (is_schema_table e.0 ≡ false → IsFit e) → (is_schema_table e.0 ≡ false → is_anew s e.0 ≡ false) → T (below_all list_cmp e.0 es) → NotYet s es → HasStood s → HasStood v × NotYet v es
    one_by e es number s v true system is fit none below others stood = let same_tables = same_answer s v is in (subst HasStood same_tables stood, subst (λ (x : TablesInHand). NotYet x es) same_tables others)
    one_by e es number s v false plain is fit none below others stood =
        let one = one_table e (fit plain) number s v is (none plain) stood in
        (one.0, not_yet s v e.0 one.1 es below others)

    pub turned : (es : List TableOfRecords) (number : ℕ) (s u : TablesInHand) → AllByRecursion (λ (e : TableOfRecords). is_schema_table e.0 ≡ false → IsFit e) es → T (is_sorted list_cmp es) → NotYet s es
        → tables_in_turn change told number s es ≡ Ok u → HasStood s → HasStood u
    turned [] number s u fit sorted none is stood = subst HasStood (same_answer s u is) stood
    turned (e ∷ es) number s u fit sorted none is stood =
        let parts = T_parts (below_all list_cmp e.0 es) (is_sorted list_cmp es) sorted in
        let (v, one, others) = passed (table_or_schema change told number s e) (λ (v : TablesInHand). tables_in_turn change told (number + 1) v es) u is in
        let next = one_by e es number s v (is_schema_table e.0) refl one fit.0 none.0 parts.0 none.1 stood in
        turned es (number + 1) v u fit.1 parts.1 next.1 others next.0
