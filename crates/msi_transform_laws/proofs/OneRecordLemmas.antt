-- One record applied to rows: what it leaves of them and of the pool.
use Rattle.std.proofs.Common.{◌≡◌, ℕ, suc, ◌+◌, ◌-◌, ◌<◌, ◌≤◌, Bool, true, false, not, List, [], ◌∷◌, length, map, filter, fold, zip, refl, sym, ap, subst, ◌∙◌, arith}
use Rattle.std.specs.Prelude.{Option, Some, None, is_some, option_and_then, unwrap_or, if◌then◌else◌, nat_lt, Result, Ok}
use Rattle.std.specs.FinMap.{find, put}
use Rattle.std.specs.List.{AllByRecursion, list_any}
use Rattle.std.specs.Option.{option_map_or}
use Rattle.std.proofs.lemmas.Bool.{le-ltb}
use Rattle.std.proofs.lemmas.List.{length-map}
use Rattle.msi_base.specs.declared.errors.ErrorKind.{ErrorKind}
use Rattle.msi_base.specs.declared.errors.ErrorKind.TheVariants.{AlreadyExists, InvalidInput, NotFound}
use Rattle.msi_base.specs.Refusals.{or_refused, unless_refused, ◌>>=◌}
use Rattle.msi_base.proofs.BoolLemmas.{by_test}
use Rattle.msi_pool.specs.Pool.{Place}
use Rattle.msi_pool.specs.FirstFitLaws.{text_at, TakenPlacesHoldTheirText, GivenBackTakesOne}
use Rattle.msi_table_cells.specs.declared.cell.ValueRef.{ValueRef}
use Rattle.msi_table_cells.specs.CellValues.{row_values, value_of_cell}
use Rattle.msi_table_values.specs.declared.value.Value.{Value}
use Rattle.msi_table_values.specs.Columns.{ColumnDef}
use Rattle.msi_database_schema.proofs.AccountLemmas.{Uses, ◌⊕◌, Enough, room}
use Rattle.msi_database_changes.specs.Texts.{PoolInUse, cell_put, cell_released, in_turn}
use Rattle.msi_database_changes.specs.declared.storing.Stored.{Stored}
use Rattle.msi_database_changes.proofs.text_counts.RowsLemmas.{row_uses, rows_put_moves, rows_released_moves, rows_uses}
use Rattle.msi_database_storage.specs.Streams.{Streams}
use Rattle.msi_transform_records.specs.declared.action.Action.{Action}
use Rattle.msi_transform_records.specs.declared.action.Action.TheVariants.{Add, Remove, Change}
use Rattle.msi_transform_records.specs.declared.records.Record.{Record}
use Rattle.msi_transform_records.specs.declared.shape.Shape.{Shape}
use Rattle.msi_transform_records.specs.Actions.{told}
use Rattle.msi_transform_records.specs.RecordCells.{added_cells, changes_of, changes_of_record}
use Rattle.msi_transform.specs.Transforms.{TransformDef, record_key, shapes_of, value_in}
use Rattle.msi_transform_rows.specs.KeyOfRows.{key_cmp}
use Rattle.msi_transform_rows.specs.RowChanges.{Rows, RowsInHand, TableChange, action_applied, cells_changed, cells_of, pool_for, record_applied, row_added, row_changed, row_removed, with_changes, with_row, without_row}
use Rattle.msi_transform_rows.specs.RowStreams.{brought, has_streams, row_stream, row_stream_gone, row_stream_stored, stored_as, told_by_changes, told_by_row}
use Rattle.msi_transform_rows.specs.declared.row.RowInHand.{RowInHand}
use Rattle.msi_transform_rows.specs.declared.row.RowStream.{RowStream}
use Rattle.msi_transform_rows.specs.declared.row.RowStream.TheVariants.{AsBefore, Brought}
use Rattle.msi_transform_making.specs.Making.{ToldRecord, ToldRow, ToldRows}
use Rattle.msi_transform_laws.specs.CarriedOut.{added_row, changed_row, done_by, is_change_of_streams, is_key_of_streams, is_of_key, record_done, with_value}
use Rattle.msi_transform_laws.specs.CanFollow.{CanFollow}
use Rattle.msi_transform_laws.specs.RowsApplied.{HasValuesOf, HaveValuesOf, IsInTransform, SaysSame, is_brought, named_values, stream_in_hand, texts_in, values_held}
use Rattle.msi_transform_laws.proofs.AlikeRowsLemmas.{alike_put, alike_without, neither_there, there_too, uses_in, uses_of_rows, uses_without}
use Rattle.msi_transform_laws.proofs.ChangedCellsLemmas.{cells_exchanged}
use Rattle.msi_transform_laws.proofs.KeyedEntriesLemmas.{held, sum_of-put, sum_of-without, without}
use Rattle.msi_transform_laws.proofs.PoolRoomLemmas.{all_put_there, row_released_long}
use Rattle.msi_transform_laws.proofs.RecordValuesLemmas.{Column, IsColumnOf, brought_beside_key, changes_say, columns_beside, key_seen, padded, padded_cells, padded_values, row_says, said_if, seen_beside, texts_beside, texts_held, texts_with_nulls, told_columns, with_seen}

-- a record as its values are seen
abbrev pub seen : TransformDef → Record → List Value → Option (List ℕ) → ToldRecord
seen t r key stream = record { action = r.action; values = map (value_in t) r.cells; key = key; stream = stream }

-- each place counts the cells of these rows, beside others
abbrev pub Accounts : Uses → List Place → Rows → Type 0
Accounts others places rows = (n : ℕ) → room places n ≡ rows_uses (cells_of rows) n + others n

-- of rows, the first
abbrev first_row : List (List Value) → List Value
first_row [] = []
first_row (row ∷ rows) = row

padded_long : (t : TransformDef) (columns : List ColumnDef) (row : List ValueRef) → length (values_held columns (map (value_in t) (padded columns row))) ≡ length columns
padded_long t [] row = refl
padded_long t (c ∷ columns) [] = ap suc (padded_long t columns [])
padded_long t (c ∷ columns) (x ∷ xs) = ap suc (padded_long t columns xs)

module _ (takes : TakenPlacesHoldTheirText) (gives : GivenBackTakesOne) (streams : Streams) (change : TableChange) (others : Uses)
    (plain : list_any is_key_of_streams change.columns ≡ false) where
  pub record Stepped (before : RowsInHand) (valued : ToldRows) (texts : ℕ) (after : RowsInHand) : Type 0 where
    pub rows : HaveValuesOf streams change after.pool.places after.rows valued
    pub accounts : Accounts others after.pool.places after.rows
    pub kept : (n : ℕ) → 0 < others n → text_at after.pool.places n ≡ text_at before.pool.places n
    pub longer : length after.pool.places ≤ length before.pool.places + texts

  abbrev pub Step : RowsInHand → ToldRows → ℕ → Result RowsInHand ErrorKind → Type 0
  Step before valued texts result = (after : RowsInHand) × (result ≡ Ok after) × Stepped before valued texts after

  module _ (s : RowsInHand) (valued : ToldRows) (alike : HaveValuesOf streams change s.pool.places s.rows valued) (accounts : Accounts others s.pool.places s.rows) where
    -- the cells of all rows but that of a key, and of other tables
    abbrev staying : List Value → Uses
    staying key n = uses_without key s.rows n + others n

    total_of : (key : List Value) (n : ℕ) → rows_uses (cells_of s.rows) n ≡ uses_without key s.rows n + held (uses_in n) (find key_cmp key s.rows)
    total_of key n = uses_of_rows s.rows n ∙ sym (sum_of-without (uses_in n) key s.rows alike.sorted)

    -- A ROW THAT IS REMOVED
    removed : (key : List Value) → is_some (find key_cmp key valued) ≡ true → Step s (without key valued) 0 (row_removed change s key)
    removed key there =
        let (row, other, found, found_too, has) = there_too streams change s.pool.places key (find key_cmp key s.rows) (find key_cmp key valued) (alike.each key) there in
        let here : (n : ℕ) → held (uses_in n) (find key_cmp key s.rows) ≡ row_uses row.cells n = λ n. ap (held (uses_in n)) found in
        let enough : Enough s.pool.places (staying key ⊕ rows_uses (row.cells ∷ [])) = λ n. omega (arith, accounts n, total_of key n, here n) in
        let moved = rows_released_moves takes gives true (staying key) (row.cells ∷ []) s.pool enough in
        let long = row_released_long s.pool row.cells in (
          without_row change key s row,
          ap (λ (o : Option RowInHand). option_map_or (λ row. Ok (without_row change key s row)) o (unless_refused ((not change.passing.removed_row_missing, NotFound) ∷ []) s)) found,
          record {
            rows = alike_without streams change s.pool.places (fold cell_released s.pool row.cells).places s.rows valued alike key (λ n u. moved.texts n (omega (arith, u)));
            accounts = λ n. omega (arith, accounts n, total_of key n, here n, moved.balance n, uses_of_rows (without key s.rows) n);
            kept = λ n u. moved.texts n (omega (arith, u));
            longer = omega (arith, long);
          },
        )

    -- STREAMS
    module _ (key : List Value) (stream : Option (List ℕ)) (brings : Bool)
        (brought_is : brings ≡ true → (bytes : List ℕ) × (stream ≡ Some bytes) × (brought change.by change.name key ≡ Some bytes)) (none_is : brings ≡ false → stream ≡ None) where
      abbrev StreamStored : Bool → Type 0
      StreamStored named = (stored : List Stored) × (row_stream_stored change.by change.name key (unwrap_or (said_if change.by named brings) AsBefore) ≡ Ok stored)

      brought_there : brings ≡ true → (stored : List Stored) × (row_stream_stored change.by change.name key Brought ≡ Ok stored)
      brought_there t =
          let b = brought_is t in
          (stored_as (row_stream change.name key) (Some b.0), ap (λ (o : Option (List ℕ)). or_refused NotFound o >>= λ bytes. Ok (stored_as (row_stream change.name key) (Some bytes))) b.2)

      stream_stored : (named : Bool) → StreamStored named
      stream_stored false = ([], refl)
      stream_stored true = by_test brings
          (λ t. rw t (brought_there t))
          (λ t. rw t (row_stream_gone change.name key, refl))

      stream_said : (named : Bool) (was : RowStream) (old : Option (List ℕ)) → stream_in_hand streams change key was ≡ old
          → stream_in_hand streams change key (unwrap_or (said_if change.by named brings) was) ≡ (if named then stream else old)
      stream_said false was old is = is
      stream_said true was old is = by_test brings
          (λ t. let b = brought_is t in rw t (b.2 ∙ sym b.1))
          (λ t. rw t (sym (none_is t)))

    module _ (r : Record) (key : List Value) (stream : Option (List ℕ)) (is : IsInTransform change (seen change.by r key stream)) where
      abbrev t : TransformDef
      t = change.by

      abbrev shapes : List Shape
      shapes = shapes_of change.columns

      abbrev values : List Value
      values = map (value_in change.by) r.cells

      abbrev es : List (Column × ValueRef)
      es = zip (told (shapes_of change.columns) r.action) r.cells

      beside : map (with_seen t) es ≡ zip (told shapes r.action) values
      beside = seen_beside t (told shapes r.action) r.cells

      key_is : record_key t shapes r ≡ key
      key_is = key_seen t es ∙ ap (λ (l : List (Column × Value)). map (λ e. e.1) (filter is_of_key l)) beside ∙ is.key

      -- A ROW THAT IS ADDED
      abbrev new_row : ToldRow
      new_row = added_row change.columns (seen change.by r key stream)

      abbrev add_with : Result PoolInUse ErrorKind → RowStream → List Value → Result RowsInHand ErrorKind
      add_with pool said vs = pool >>= λ pool. row_stream_stored change.by change.name key said >>=
          λ stored. or_refused InvalidInput (in_turn (cell_put true) pool vs) >>= λ p. Ok (with_row key stored said s p)

      pool_is : find key_cmp key s.rows ≡ None → length s.rows ≤ 65535 → pool_for change s.rows s.pool key ≡ Ok s.pool
      pool_is missing few =
          ap (λ (o : Option RowInHand). option_map_or (λ (row : RowInHand). unless_refused ((not change.passing.added_row_exists, AlreadyExists) ∷ []) (fold cell_released s.pool row.cells)) o
          (unless_refused ((nat_lt 65535 (length s.rows), InvalidInput) ∷ []) s.pool)) missing
          ∙ rw (le-ltb 65535 (length s.rows) few) refl

      added_long : length (values_held change.columns new_row.values) ≡ length change.columns
      added_long = ap (λ (l : List Value). length l) (sym (padded_values t change.columns r.cells)) ∙ padded_long t change.columns r.cells

      added : (k : ℕ) → r.action ≡ Add k → find key_cmp key valued ≡ None → length valued ≤ 65535 → length s.pool.places + texts_in values ≤ 16777215
          → Step s (put key_cmp key new_row valued) (texts_in values) (row_added change s key (added_cells shapes r))
      added k action absent few fits =
          let named = list_any is_brought (named_values change.columns (seen change.by r key stream)) in
          let missing = neither_there streams change s.pool.places key (find key_cmp key s.rows) (find key_cmp key valued) (alike.each key) absent in
          let many : length r.cells ≡ length (told shapes (Add k)) = sym (length-map r.cells (value_in t)) ∙ is.many ∙ ap (λ (a : Action). length (told shapes a)) action in
          let says : told_by_row change.columns (padded change.columns r.cells) ≡ said_if t (has_streams change.columns) named =
          row_says t k change.columns r.cells many ∙ ap (λ (a : Action). said_if t (has_streams change.columns) (list_any is_brought (zip (told shapes a) values))) (sym action) in
          let said = unwrap_or (said_if t (has_streams change.columns) named) AsBefore in
          let vs = values_held change.columns new_row.values in
          let fewer : texts_in vs ≤ texts_in values = omega (arith, texts_held change.columns new_row.values, texts_with_nulls values (length change.columns - length values)) in
          let stored = stream_stored key stream named is.brings is.without (has_streams change.columns) in
          let put_there = all_put_there s.pool vs (omega (arith, fits, fewer)) in
          let p = put_there.0 in
          let staying : Uses = λ n. rows_uses (cells_of s.rows) n + others n in
          let moved = rows_put_moves takes gives true staying (vs ∷ []) s.pool (p.0 ∷ [], p.1) (λ n. omega (arith, accounts n))
          (ap (option_and_then (λ (q : List ValueRef × PoolInUse). Some (q.0 ∷ [], q.1))) put_there.1) in
          let values_are : row_values p.1.places p.0 ≡ vs = ap first_row moved.values in
          let row : RowInHand = record { cells = p.0; stream = said } in
          let has : HasValuesOf streams change p.1.places key row new_row = record {
            long = sym (length-map p.0 (value_of_cell p.1.places)) ∙ ap (λ (l : List Value). length l) values_are ∙ added_long;
            values = values_are;
            stream = λ some. stream_said key stream named is.brings is.without (has_streams change.columns) AsBefore (stream_in_hand streams change key AsBefore) refl
                ∙ ap (λ b. if b then stream else stream_in_hand streams change key AsBefore) some;
          } in
          let nothing : (n : ℕ) → held (uses_in n) (find key_cmp key s.rows) ≡ 0 = λ n. ap (held (uses_in n)) missing in (
            with_row key stored.0 said s p,
            ap (row_added change s key) (padded_cells change.columns r.cells)
                ∙ (λ i. add_with (pool_is missing (omega (arith, few, alike.many)) i) (unwrap_or (says i) AsBefore) (padded_values t change.columns r.cells i))
                ∙ ap (λ (q : Result (List Stored) ErrorKind). q >>= λ stored. or_refused InvalidInput (in_turn (cell_put true) s.pool vs) >>= λ p. Ok (with_row key stored said s p)) stored.1
                ∙ ap (λ (o : Option (List ValueRef × PoolInUse)). or_refused InvalidInput o >>= λ p. Ok (with_row key stored.0 said s p)) put_there.1,
            record {
              rows = alike_put streams change s.pool.places p.1.places s.rows valued alike key (λ n u. moved.moved.texts n (omega (arith, u, total_of key n))) row new_row has;
              accounts = λ n. omega (arith, accounts n, moved.moved.balance n, uses_of_rows s.rows n, uses_of_rows (put key_cmp key row s.rows) n, sum_of-put (uses_in n) key row s.rows alike.sorted, nothing n);
              kept = λ n u. moved.moved.texts n (omega (arith, u));
              longer = omega (arith, put_there.2, fewer);
            },
          )

      -- A ROW THAT IS CHANGED
      abbrev changing : List (Column × Value) → List (Column × Value)
      changing l = filter (λ e. not (is_of_key e)) l

      abbrev row_after : ToldRow → List (Column × Value) → ToldRow
      row_after other l = record { values = fold with_value other.values (changing l); stream = if list_any is_change_of_streams (changing l) then stream else other.stream }

      columns_are : AllByRecursion (λ (e : Column × ValueRef). IsColumnOf change.columns e.0) es
      columns_are = columns_beside change.columns (told shapes r.action) r.cells (told_columns change.columns r.action plain)

      brings_same : list_any is_brought (changing (map (with_seen t) es)) ≡ list_any is_brought (named_values change.columns (seen change.by r key stream))
      brings_same = sym (brought_beside_key t change.columns es columns_are) ∙ ap (λ (l : List (Column × Value)). list_any is_brought l) beside

      changed_there : (row : RowInHand) (other : ToldRow) → find key_cmp key s.rows ≡ Some row → HasValuesOf streams change s.pool.places key row other
          → length s.pool.places + texts_in values ≤ 16777215
          → Step s (put key_cmp key (row_after other (map (with_seen t) es)) valued) (texts_in values) (with_changes change key (changes_of es) s row)
      changed_there row other found has fits =
          let named = list_any is_change_of_streams (changing (map (with_seen t) es)) in
          let brings = list_any is_brought (changing (map (with_seen t) es)) in
          let brought_is : brings ≡ true → (bytes : List ℕ) × (stream ≡ Some bytes) × (brought change.by change.name key ≡ Some bytes) = λ b. is.brings (sym brings_same ∙ b) in
          let without_is : brings ≡ false → stream ≡ None = λ b. is.without (sym brings_same ∙ b) in
          let says : told_by_changes change.columns (changes_of es) ≡ said_if t named brings = changes_say t change.columns es columns_are in
          let stored = stream_stored key stream brings brought_is without_is named in
          let here : (n : ℕ) → held (uses_in n) (find key_cmp key s.rows) ≡ row_uses row.cells n = λ n. ap (held (uses_in n)) found in
          let fewer = texts_beside t (told shapes r.action) r.cells in
          let exchanged = cells_exchanged takes gives change (staying key) es row.cells other.values s.pool columns_are has.long has.values
          (λ n. omega (arith, accounts n, total_of key n, here n)) (omega (arith, fits, fewer)) in
          let p = exchanged.0 in
          let done = exchanged.2 in
          let new_row_in_hand : RowInHand = record { cells = p.0; stream = unwrap_or (told_by_changes change.columns (changes_of es)) row.stream } in
          let has_now : HasValuesOf streams change p.1.places key new_row_in_hand (row_after other (map (with_seen t) es)) = record {
            long = done.long ∙ has.long;
            values = done.values_are;
            stream = λ some. ap (λ (o : Option RowStream). stream_in_hand streams change key (unwrap_or o row.stream)) says
                ∙ stream_said key stream brings brought_is without_is named row.stream other.stream (has.stream some);
          } in (
            with_row key stored.0 (unwrap_or (told_by_changes change.columns (changes_of es)) row.stream) s p,
            (λ i. row_stream_stored change.by change.name key (unwrap_or (says i) AsBefore) >>= λ stored. or_refused InvalidInput (cells_changed change s.pool row.cells (changes_of es))
                >>= λ p. Ok (with_row key stored (unwrap_or (told_by_changes change.columns (changes_of es)) row.stream) s p))
                ∙ ap (λ (q : Result (List Stored) ErrorKind). q >>= λ stored. or_refused InvalidInput (cells_changed change s.pool row.cells (changes_of es))
                >>= λ p. Ok (with_row key stored (unwrap_or (told_by_changes change.columns (changes_of es)) row.stream) s p)) stored.1
                ∙ ap (λ (o : Option (List ValueRef × PoolInUse)). or_refused InvalidInput o >>= λ p. Ok (with_row key stored.0 (unwrap_or (told_by_changes change.columns (changes_of es)) row.stream) s p)) exchanged.1,
            record {
              rows = alike_put streams change s.pool.places p.1.places s.rows valued alike key (λ n u. done.moved.texts n (omega (arith, u))) new_row_in_hand (row_after other (map (with_seen t) es)) has_now;
              accounts = λ n. omega (arith, accounts n, done.moved.balance n, uses_of_rows s.rows n, uses_of_rows (put key_cmp key new_row_in_hand s.rows) n, sum_of-put (uses_in n) key new_row_in_hand s.rows alike.sorted, here n);
              kept = λ n u. done.moved.texts n (omega (arith, u));
              longer = omega (arith, done.longer, fewer);
            },
          )

      changed : is_some (find key_cmp key valued) ≡ true → length s.pool.places + texts_in values ≤ 16777215
          → (other : ToldRow) × (find key_cmp key valued ≡ Some other)
          × Step s (put key_cmp key (changed_row change.columns (seen change.by r key stream) other) valued) (texts_in values) (row_changed change s key (changes_of_record shapes r))
      changed there fits =
          let (row, other, found, found_too, has) = there_too streams change s.pool.places key (find key_cmp key s.rows) (find key_cmp key valued) (alike.each key) there in
          let step = changed_there row other found has fits in
          let result : row_changed change s key (changes_of_record shapes r) ≡ Ok step.0 =
          ap (λ (o : Option RowInHand). option_map_or (with_changes change key (changes_of es) s) o (unless_refused ((not change.passing.changed_row_missing, NotFound) ∷ []) s)) found ∙ step.1 in
          let same : put key_cmp key (row_after other (map (with_seen t) es)) valued ≡ put key_cmp key (changed_row change.columns (seen change.by r key stream) other) valued =
          ap (λ (l : List (Column × Value)). put key_cmp key (row_after other l) valued) beside in
          (other, found_too, (step.0, result, subst (λ (rows : ToldRows). Stepped s rows (texts_in values) step.0) same step.2))

      -- A RECORD
      stepped : (a : Action) → r.action ≡ a → CanFollow valued (seen change.by r key stream) a → length s.pool.places + texts_in values ≤ 16777215
          → Step s (done_by change.columns valued (seen change.by r key stream) a) (texts_in values) (action_applied change shapes s r a)
      stepped Remove action follows fits =
          let step = removed key follows in
          (step.0, ap (row_removed change s) key_is ∙ step.1, record { rows = step.2.rows; accounts = step.2.accounts; kept = step.2.kept; longer = omega (arith, step.2.longer) })
      stepped (Add k) action follows fits =
          let step = added k action follows.0 follows.1 fits in
          (step.0, ap (λ (q : List Value). row_added change s q (added_cells shapes r)) key_is ∙ step.1, step.2)
      stepped (Change mask) action follows fits =
          let step = changed follows fits in
          let same : put key_cmp key (changed_row change.columns (seen change.by r key stream) step.0) valued ≡ done_by change.columns valued (seen change.by r key stream) (Change mask) =
          ap (λ (o : Option ToldRow). option_map_or (λ (row : ToldRow). put key_cmp key (changed_row change.columns (seen change.by r key stream) row) valued) o valued) (sym step.1) in
          (step.2.0, ap (λ (q : List Value). row_changed change s q (changes_of_record shapes r)) key_is ∙ step.2.1, subst (λ (rows : ToldRows). Stepped s rows (texts_in values) step.2.0) same step.2.2)

  -- a record that says the same as one of values
  pub one_record : (s : RowsInHand) (valued : ToldRows) → HaveValuesOf streams change s.pool.places s.rows valued → Accounts others s.pool.places s.rows
      → (r : ToldRecord) (stored : Record) → SaysSame change.by r stored → IsInTransform change r → CanFollow valued r r.action → length s.pool.places + texts_in r.values ≤ 16777215
      → Step s (record_done change.columns valued r) (texts_in r.values) (record_applied change s stored)
  one_record s valued alike accounts r stored same is follows fits =
      let as_seen : seen change.by stored r.key r.stream ≡ r = λ i. record { action = (same i).0; values = (same i).1; key = r.key; stream = r.stream } in
      let is_seen = subst (IsInTransform change) (sym as_seen) is in
      let follows_seen = subst (λ (x : ToldRecord). CanFollow valued x x.action) (sym as_seen) follows in
      let fits_seen = subst (λ (x : ToldRecord). length s.pool.places + texts_in x.values ≤ 16777215) (sym as_seen) fits in
      subst (λ (x : ToldRecord). Step s (record_done change.columns valued x) (texts_in x.values) (record_applied change s stored)) as_seen
      (stepped s valued alike accounts stored r.key r.stream is_seen stored.action refl follows_seen fits_seen)
