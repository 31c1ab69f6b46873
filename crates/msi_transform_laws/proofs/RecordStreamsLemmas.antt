-- What applying a record says of the stream of its row, and which stream the row is to have then.
use Rattle.std.proofs.Common.{◌≡◌, ℕ, zero, suc, Bool, true, false, cond, not, ◌||◌, List, [], ◌∷◌, ◌++◌, map, zip, append-nil, Option, Some, None, is_some, Ok, refl, sym, ap, subst, ◌∙◌}
use Rattle.std.specs.Prelude.{⊤, if◌then◌else◌, option_and_then, unwrap_or}
use Rattle.std.specs.Cmp.{tied_itself}
use Rattle.std.specs.Cmp.Lexicographic.{bytes_decides}
use Rattle.std.specs.FinMap.{find}
use Rattle.std.specs.FinMap.Entries.{find-put}
use Rattle.std.specs.List.{AllByRecursion}
use Rattle.std.specs.Option.{option_map_or}
use Rattle.std.specs.Ordering.{eq_by_cmp, is_eq}
use Rattle.msi_base.specs.declared.errors.ErrorKind.TheVariants.{InvalidInput, NotFound}
use Rattle.msi_base.specs.Refusals.{or_refused, unless_refused, ◌>>=◌}
use Rattle.msi_base.proofs.BoolLemmas.{by_test, yes_is_no}
use Rattle.msi_base.proofs.OptionLemmas.{none_is}
use Rattle.msi_table_cells.specs.declared.cell.ValueRef.{ValueRef}
use Rattle.msi_table_values.specs.declared.value.Value.{Value}
use Rattle.msi_table_values.specs.declared.column.ColumnType.{ColumnType}
use Rattle.msi_table_values.specs.Columns.{ColumnDef, types_of}
use Rattle.msi_database_changes.specs.Texts.{PoolInUse, cell_put, in_turn}
use Rattle.msi_database_changes.specs.declared.storing.Stored.{Stored}
use Rattle.msi_database_changes.proofs.describing.ShownTablesLemmas.{ok_first}
use Rattle.msi_database_changes.proofs.steps.RefusedLemmas.{not_refused, same_Ok, value_there}
use Rattle.msi_database_storage.specs.Streams.{stream_at}
use Rattle.msi_transform_records.specs.RecordCells.{added_cells, changes_of_record}
use Rattle.msi_transform_records.specs.declared.action.Action.{Action}
use Rattle.msi_transform_records.specs.declared.action.Action.TheVariants.{Add, Remove, Change}
use Rattle.msi_transform_records.specs.declared.records.Record.{Record}
use Rattle.msi_transform.specs.Transforms.{TransformDef, record_key, shapes_of}
use Rattle.msi_transform_rows.specs.KeyOfRows.{key_cmp}
use Rattle.msi_transform_rows.specs.RowChanges.{RowsInHand, TableChange, action_applied, cells_changed, pool_for, record_applied, row_added, row_at, streams_without, values_told, with_changes, with_row, without_row}
use Rattle.msi_transform_rows.specs.RowStreams.{brought, has_streams, is_of_streams, is_stream, row_stream, row_stream_gone, row_stream_stored, stored_as, told_by_changes, told_by_row, told_stream, type_in}
use Rattle.msi_transform_rows.specs.declared.row.RowInHand.{RowInHand}
use Rattle.msi_transform_rows.specs.declared.row.RowStream.{RowStream}
use Rattle.msi_transform_rows.specs.declared.row.RowStream.TheVariants.{AsBefore, Gone, Brought}
use Rattle.msi_transform_laws.proofs.AlikeRowsLemmas.{found_without}
use Rattle.msi_transform_laws.proofs.CarriedOutLemmas.{keys_total}
use Rattle.msi_transform_laws.proofs.HeardStreamsLemmas.{Heard, heard, later, some_later}
use Rattle.msi_transform_laws.proofs.RecordValuesLemmas.{padded, padded_cells}

-- A ROW BESIDE WHAT WAS SAID LAST OF A STREAM, which is wanted in the end, or isn't

module _ (by : TransformDef) (n : List ℕ) where
  -- bytes that were said are the transform's
  abbrev pub IsOf : Heard → Type 0
  IsOf h = (bytes : List ℕ) → h ≡ Some (Some bytes) → stream_at n by.streams ≡ Some bytes

  pub of_later : (x h : Heard) → IsOf x → IsOf h → IsOf (later x h)
  of_later None h f g = g
  of_later (Some bytes) h f g = f

module _ (by : TransformDef) (wanted : Option (List ℕ)) (n : List ℕ) where
  -- nothing was said of a stream that is wanted
  abbrev pub Quiet : Heard → Type 0
  Quiet h = is_some wanted ≡ true → h ≡ None

  abbrev pub Agrees : RowStream → Heard → Type 0
  Agrees AsBefore h = Quiet h
  Agrees Gone h = is_some h ≡ true
  Agrees Brought h = (is_some h ≡ true) × (is_some wanted ≡ true → h ≡ Some (stream_at n by.streams))

  abbrev pub RowAgrees : Option RowInHand → Heard → Type 0
  RowAgrees None h = ⊤
  RowAgrees (Some row) h = Agrees row.stream h

  pub quiet_later : (x h : Heard) → Quiet x → Quiet h → Quiet (later x h)
  quiet_later x h f g s = ap (λ (y : Heard). later y h) (f s) ∙ g s

  agrees_later : (stream : RowStream) (x h : Heard) → Quiet x → Agrees stream h → Agrees stream (later x h)
  agrees_later AsBefore x h f g = quiet_later x h f g
  agrees_later Gone x h f g = some_later x h g
  agrees_later Brought x h f g = (some_later x h g.0, (λ s. ap (λ (y : Heard). later y h) (f s) ∙ g.1 s))

  pub row_later : (o : Option RowInHand) (x h : Heard) → Quiet x → RowAgrees o h → RowAgrees o (later x h)
  row_later None x h f g = tt
  row_later (Some row) x h f g = agrees_later row.stream x h f g

-- WHAT CELLS TELL OF A STREAM

abbrev IsTold : Option RowStream → Type 0
IsTold None = ⊤
IsTold (Some AsBefore) = ⊥
IsTold (Some Gone) = ⊤
IsTold (Some Brought) = ⊤

gone_told : (o : Option RowStream) → IsTold o → IsTold (Some (unwrap_or o Gone))
gone_told None h = tt
gone_told (Some AsBefore) h = h
gone_told (Some Gone) h = tt
gone_told (Some Brought) h = tt

beside_told : (streams there : Bool) (o : Option RowStream) → IsTold o → IsTold (if streams then Some (if there then Brought else unwrap_or o Gone) else o)
beside_told true true o h = tt
beside_told true false o h = gone_told o h
beside_told false there o h = h

is_told : (cells : List (ColumnType × ValueRef)) → IsTold (told_stream cells)
is_told [] = tt
is_told (e ∷ es) = beside_told (is_of_streams e.0) (is_stream e.1) (told_stream es) (is_told es)

or_true : (b : Bool) → (b || true) ≡ true
or_true true = refl
or_true false = refl

row_has : (columns : List ColumnDef) (cells : List ValueRef) → is_some (told_stream (zip (types_of columns) cells)) ≡ true → has_streams columns ≡ true
row_has [] cells h = yes_is_no false h refl
row_has (c ∷ columns) [] h = yes_is_no false h refl
row_has (c ∷ columns) (x ∷ xs) h = by_test (is_of_streams c.coltype)
    (λ t. rw t refl)
    (λ t. rw t (row_has columns xs (rw t at h)))

row_tells : (columns : List ColumnDef) (cells : List ValueRef) → has_streams columns ≡ true → is_some (told_stream (zip (types_of columns) (padded columns cells))) ≡ true
row_tells [] cells h = yes_is_no false h refl
row_tells (c ∷ columns) [] h = by_test (is_of_streams c.coltype)
    (λ t. rw t refl)
    (λ t. rw t (row_tells columns [] (rw t at h)))
row_tells (c ∷ columns) (x ∷ xs) h = by_test (is_of_streams c.coltype)
    (λ t. rw t refl)
    (λ t. rw t (row_tells columns xs (rw t at h)))

type_has : (columns : List ColumnDef) (i : ℕ) → is_of_streams (type_in columns i) ≡ true → has_streams columns ≡ true
type_has [] i h = yes_is_no false h refl
type_has (c ∷ columns) zero h = rw h refl
type_has (c ∷ columns) (suc i) h = ap (λ b. is_of_streams c.coltype || b) (type_has columns i h) ∙ or_true (is_of_streams c.coltype)

changes_have : (columns : List ColumnDef) (told : List (ℕ × ValueRef)) → is_some (told_by_changes columns told) ≡ true → has_streams columns ≡ true
changes_have columns [] h = yes_is_no false h refl
changes_have columns (e ∷ es) h = by_test (is_of_streams (type_in columns e.0))
    (λ t. type_has columns e.0 t)
    (λ t. changes_have columns es (rw t at h))

-- A RECORD

pub tied : (key : List Value) → eq_by_cmp key_cmp key key ≡ true
tied key = ap is_eq (tied_itself keys_total key)

module _ (change : TableChange) where
  -- what is said is said of the stream of a key's row, in a table with streams
  pub record IsSaid (key : List Value) (e : Stored) : Type 0 where
    pub at : row_stream change.name key ≡ Some e.name
    pub has : has_streams change.columns ≡ true
    pub bytes : (bytes : List ℕ) → e.bytes ≡ Some bytes → stream_at e.name change.by.streams ≡ Some bytes

  pub record Did (key : List Value) (s u : RowsInHand) : Type 0 where
    pub said : List Stored
    pub streams : u.streams ≡ s.streams ++ said
    pub are : AllByRecursion (IsSaid key) said
    pub others : (q : List Value) → eq_by_cmp key_cmp q key ≡ false → find key_cmp q u.rows ≡ find key_cmp q s.rows
    pub own : (wanted : Option (List ℕ)) (n : List ℕ) → row_stream change.name key ≡ Some n → has_streams change.columns ≡ true → (h : Heard)
        → RowAgrees change.by wanted n (find key_cmp key s.rows) h → RowAgrees change.by wanted n (find key_cmp key u.rows) (later (heard n said) h)

  did_nothing : (key : List Value) (s u : RowsInHand) → s ≡ u → Did key s u
  did_nothing key s u same = subst (Did key s) same
      (record { said = []; streams = sym (append-nil s.streams); are = tt; others = λ q apart. refl; own = λ wanted n at has h g. g })

  module _ (key : List Value) where
    said_once : has_streams change.columns ≡ true → (bytes : Option (List ℕ))
        → ((n b : List ℕ) → row_stream change.name key ≡ Some n → bytes ≡ Some b → stream_at n change.by.streams ≡ Some b)
        → (o : Option (List ℕ)) → row_stream change.name key ≡ o → AllByRecursion (IsSaid key) (stored_as o bytes)
    said_once has bytes are None at = tt
    said_once has bytes are (Some n) at = (record { at = at; has = has; bytes = λ b e. are n b at e }, tt)

    gone_said : has_streams change.columns ≡ true → AllByRecursion (IsSaid key) (row_stream_gone change.name key)
    gone_said has = said_once has None (λ n b at e. none_is e) (row_stream change.name key) refl

    heard_at : (n : List ℕ) → row_stream change.name key ≡ Some n → (bytes : Option (List ℕ)) → heard n (stored_as (row_stream change.name key) bytes) ≡ Some bytes
    heard_at n at bytes =
        ap (λ (o : Option (List ℕ)). heard n (stored_as o bytes)) at
        ∙ ap (λ b. later None (if b then Some bytes else None)) ((bytes_decides n n).1 refl)

    -- a row that is removed
    removed_said : (b : Bool) → has_streams change.columns ≡ b → AllByRecursion (IsSaid key) (if b then row_stream_gone change.name key else [])
    removed_said true has = gone_said has
    removed_said false has = tt

    did_remove : (s : RowsInHand) (row : RowInHand) → Did key s (without_row change key s row)
    did_remove s row = record {
      said = streams_without change key;
      streams = refl;
      are = removed_said (has_streams change.columns) refl;
      others = λ q apart. found_without q key s.rows ∙ ap (λ b. cond b None (find key_cmp q s.rows)) apart;
      own = λ wanted n at has h g.
          subst (λ (o : Option RowInHand). RowAgrees change.by wanted n o (later (heard n (streams_without change key)) h))
          (sym (found_without key key s.rows ∙ ap (λ b. cond b None (find key_cmp key s.rows)) (tied key))) tt;
    }

    -- what a row's record tells of its stream
    abbrev StoredBy : RowStream → List Stored → Type 0
    StoredBy stream stored = row_stream_stored change.by change.name key stream ≡ Ok stored

    abbrev Brings : List Stored → Type 0
    Brings stored = (bytes : List ℕ) × (brought change.by change.name key ≡ Some bytes) × (stored_as (row_stream change.name key) (Some bytes) ≡ stored)

    brings : (stored : List Stored) → StoredBy Brought stored → Brings stored
    brings stored is =
        let (bytes, found, made) = ok_first (or_refused NotFound (brought change.by change.name key)) (λ (bytes : List ℕ). Ok (stored_as (row_stream change.name key) (Some bytes))) stored is in
        (bytes, value_there NotFound (brought change.by change.name key) bytes found, same_Ok (stored_as (row_stream change.name key) (Some bytes)) stored made)

    stream_brought : (n bytes : List ℕ) → row_stream change.name key ≡ Some n → brought change.by change.name key ≡ Some bytes → stream_at n change.by.streams ≡ Some bytes
    stream_brought n bytes at found = sym (ap (option_and_then (λ (m : List ℕ). stream_at m change.by.streams)) at) ∙ found

    stored_are : (o : Option RowStream) (stored : List Stored) → (is_some o ≡ true → has_streams change.columns ≡ true) → StoredBy (unwrap_or o AsBefore) stored → AllByRecursion (IsSaid key) stored
    stored_are None stored has is = subst (AllByRecursion (IsSaid key)) (same_Ok [] stored is) tt
    stored_are (Some AsBefore) stored has is = subst (AllByRecursion (IsSaid key)) (same_Ok [] stored is) tt
    stored_are (Some Gone) stored has is = subst (AllByRecursion (IsSaid key)) (same_Ok (row_stream_gone change.name key) stored is) (gone_said (has refl))
    stored_are (Some Brought) stored has is =
        let b = brings stored is in
        subst (AllByRecursion (IsSaid key)) b.2 (said_once (has refl) (Some b.0) (λ n x at e. stream_brought n b.0 at b.1 ∙ e) (row_stream change.name key) refl)

    told_agrees : (o : Option RowStream) (was : RowStream) (stored : List Stored) → IsTold o → StoredBy (unwrap_or o AsBefore) stored → (wanted : Option (List ℕ)) (n : List ℕ)
        → row_stream change.name key ≡ Some n → (h : Heard) → (o ≡ None → Agrees change.by wanted n was h) → Agrees change.by wanted n (unwrap_or o was) (later (heard n stored) h)
    told_agrees None was stored told is wanted n at h g = subst (λ (l : List Stored). Agrees change.by wanted n was (later (heard n l) h)) (same_Ok [] stored is) (g refl)
    told_agrees (Some AsBefore) was stored told is wanted n at h g = absurd told
    told_agrees (Some Gone) was stored told is wanted n at h g =
        subst (λ (l : List Stored). is_some (later (heard n l) h) ≡ true) (same_Ok (row_stream_gone change.name key) stored is)
        (ap (λ (x : Heard). is_some (later x h)) (heard_at n at None))
    told_agrees (Some Brought) was stored told is wanted n at h g =
        let b = brings stored is in
        subst (λ (l : List Stored). Agrees change.by wanted n Brought (later (heard n l) h)) b.2 (
          ap (λ (x : Heard). is_some (later x h)) (heard_at n at (Some b.0)),
          (λ s. ap (λ (x : Heard). later x h) (heard_at n at (Some b.0)) ∙ ap Some (sym (stream_brought n b.0 at b.1))),
        )

    did_put : (s : RowsInHand) (o : Option RowStream) (was : RowStream) (stored : List Stored) (r : List ValueRef × PoolInUse) → IsTold o → (is_some o ≡ true → has_streams change.columns ≡ true)
        → StoredBy (unwrap_or o AsBefore) stored
        → ((wanted : Option (List ℕ)) (n : List ℕ) → has_streams change.columns ≡ true → (h : Heard) → RowAgrees change.by wanted n (find key_cmp key s.rows) h → o ≡ None → Agrees change.by wanted n was h)
        → Did key s (with_row key stored (unwrap_or o was) s r)
    did_put s o was stored r told has is before =
        let row : RowInHand = record { cells = r.0; stream = unwrap_or o was } in
        record {
          said = stored;
          streams = refl;
          are = stored_are o stored has is;
          others = λ q apart. find-put key_cmp keys_total q key row s.rows ∙ ap (λ b. cond b (Some row) (find key_cmp q s.rows)) apart;
          own = λ wanted n at some h g.
              subst (λ (x : Option RowInHand). RowAgrees change.by wanted n x (later (heard n stored) h))
              (sym (find-put key_cmp keys_total key key row s.rows ∙ ap (λ b. cond b (Some row) (find key_cmp key s.rows)) (tied key)))
              (told_agrees o was stored told is wanted n at h (before wanted n some h g));
        }

    removed_by : (s u : RowsInHand) (o : Option RowInHand)
        → option_map_or (λ (row : RowInHand). Ok (without_row change key s row)) o (unless_refused ((not change.passing.removed_row_missing, NotFound) ∷ []) s) ≡ Ok u → Did key s u
    removed_by s u None is = did_nothing key s u (not_refused ((not change.passing.removed_row_missing, NotFound) ∷ []) s u is).1
    removed_by s u (Some row) is = subst (Did key s) (same_Ok (without_row change key s row) u is) (did_remove s row)

    did_change : (s u : RowsInHand) (told : List (ℕ × ValueRef)) (row : RowInHand) → find key_cmp key s.rows ≡ Some row → with_changes change key told s row ≡ Ok u → Did key s u
    did_change s u told row at is =
        let o = told_by_changes change.columns told in
        let stream = unwrap_or o AsBefore in
        let left = unwrap_or o row.stream in
        let (stored, said, rest) = ok_first (row_stream_stored change.by change.name key stream)
        (λ (stored : List Stored). or_refused InvalidInput (cells_changed change s.pool row.cells told) >>= λ (r : List ValueRef × PoolInUse). Ok (with_row key stored left s r)) u is in
        let (r, _, made) = ok_first (or_refused InvalidInput (cells_changed change s.pool row.cells told)) (λ (r : List ValueRef × PoolInUse). Ok (with_row key stored left s r)) u rest in
        subst (Did key s) (same_Ok (with_row key stored left s r) u made)
        (did_put s o row.stream stored r (is_told (map (λ (e : ℕ × ValueRef). (type_in change.columns e.0, e.1)) told)) (changes_have change.columns told) said
        (λ wanted n some h g none. subst (λ (x : Option RowInHand). RowAgrees change.by wanted n x h) at g))

    changed_by : (s u : RowsInHand) (told : List (ℕ × ValueRef)) (o : Option RowInHand) → find key_cmp key s.rows ≡ o
        → option_map_or (with_changes change key told s) o (unless_refused ((not change.passing.changed_row_missing, NotFound) ∷ []) s) ≡ Ok u → Did key s u
    changed_by s u told None at is = did_nothing key s u (not_refused ((not change.passing.changed_row_missing, NotFound) ∷ []) s u is).1
    changed_by s u told (Some row) at is = did_change s u told row at is

    did_add : (s u : RowsInHand) (cells : List ValueRef) → (has_streams change.columns ≡ true → is_some (told_by_row change.columns cells) ≡ true) → row_added change s key cells ≡ Ok u → Did key s u
    did_add s u cells tells is =
        let o = told_by_row change.columns cells in
        let stream = unwrap_or o AsBefore in
        let (pool, _, further) = ok_first (pool_for change s.rows s.pool key)
        (λ (pool : PoolInUse). row_stream_stored change.by change.name key stream >>= λ (stored : List Stored).
        or_refused InvalidInput (in_turn (cell_put true) pool (values_told change cells)) >>= λ (r : List ValueRef × PoolInUse). Ok (with_row key stored stream s r)) u is in
        let (stored, said, rest) = ok_first (row_stream_stored change.by change.name key stream)
        (λ (stored : List Stored). or_refused InvalidInput (in_turn (cell_put true) pool (values_told change cells)) >>= λ (r : List ValueRef × PoolInUse). Ok (with_row key stored stream s r)) u further in
        let (r, _, made) = ok_first (or_refused InvalidInput (in_turn (cell_put true) pool (values_told change cells))) (λ (r : List ValueRef × PoolInUse). Ok (with_row key stored stream s r)) u rest in
        subst (Did key s) (same_Ok (with_row key stored stream s r) u made)
        (did_put s o AsBefore stored r (is_told (zip (types_of change.columns) cells)) (row_has change.columns cells) said
        (λ wanted n some h g none. yes_is_no (is_some o) (tells some) (ap (λ (x : Option RowStream). is_some x) none)))

  tells_added : (r : Record) → has_streams change.columns ≡ true → is_some (told_by_row change.columns (added_cells (shapes_of change.columns) r)) ≡ true
  tells_added r has =
      ap (λ (cells : List ValueRef). is_some (told_by_row change.columns cells)) (padded_cells change.columns r.cells) ∙ row_tells change.columns r.cells has

  by_action : (s u : RowsInHand) (r : Record) (action : Action) → action_applied change (shapes_of change.columns) s r action ≡ Ok u → Did (record_key change.by (shapes_of change.columns) r) s u
  by_action s u r Remove is = let key = record_key change.by (shapes_of change.columns) r in removed_by key s u (row_at key s.rows) is
  by_action s u r (Change m) is = let key = record_key change.by (shapes_of change.columns) r in changed_by key s u (changes_of_record (shapes_of change.columns) r) (row_at key s.rows) refl is
  by_action s u r (Add k) is = let key = record_key change.by (shapes_of change.columns) r in did_add key s u (added_cells (shapes_of change.columns) r) (tells_added r) is

  -- a record tells of its row alone
  pub did_record : (s : RowsInHand) (r : Record) (u : RowsInHand) → record_applied change s r ≡ Ok u → Did (record_key change.by (shapes_of change.columns) r) s u
  did_record s r u is = by_action s u r r.action is
