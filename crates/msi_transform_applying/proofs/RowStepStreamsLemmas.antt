-- The records of a transform say nothing of a stream that is no table's and no row's.
use Rattle.std.proofs.Common.{◌≡◌, ◌≢◌, ℕ, ℤ, Bool, true, false, not, List, [], ◌∷◌, ◌++◌, map, Option, Some, None, Ok, subst}
use Rattle.std.specs.Prelude.{if◌then◌else◌, unwrap_or, length}
use Rattle.std.specs.List.{AllByRecursion, flat_map}
use Rattle.std.specs.Option.{option_map_or}
use Rattle.msi_base.specs.declared.errors.ErrorKind.TheVariants.{AlreadyExists, InvalidData, InvalidInput, NotFound}
use Rattle.msi_base.specs.Refusals.{or_refused, unless_refused, ◌>>=◌}
use Rattle.msi_database_changes.specs.Texts.{PoolInUse, cell_put, in_turn}
use Rattle.msi_database_changes.specs.declared.storing.Stored.{Stored}
use Rattle.msi_database_changes.proofs.describing.ShownTablesLemmas.{ok_first}
use Rattle.msi_database_changes.proofs.steps.RefusedLemmas.{not_refused, same_Ok}
use Rattle.msi_database_schema.specs.Keys.{is_stream_name, stream_key, table_key}
use Rattle.msi_database_schema.specs.Schema.{value_at}
use Rattle.msi_database_storage.specs.Storing.{stream_gone}
use Rattle.msi_table_cells.specs.CellValues.{row_values}
use Rattle.msi_table_cells.specs.KeyOrder.{key_of}
use Rattle.msi_table_cells.specs.declared.cell.ValueRef.{ValueRef}
use Rattle.msi_table_values.specs.Columns.{ColumnDef}
use Rattle.msi_table_values.specs.declared.value.Value.{Value}
use Rattle.msi_table_values.specs.declared.value.Value.TheVariants.{Str}
use Rattle.msi_transform.specs.Transforms.{TransformDef, record_key, shapes_of, value_in}
use Rattle.msi_transform_records.specs.RecordCells.{added_cells, changes_of_record}
use Rattle.msi_transform_records.specs.declared.action.Action.{Action}
use Rattle.msi_transform_records.specs.declared.action.Action.TheVariants.{Add, Remove, Change}
use Rattle.msi_transform_records.specs.declared.records.Record.{Record}
use Rattle.msi_transform_records.specs.declared.shape.Shape.{Shape}
use Rattle.msi_transform_rows.specs.RowChanges.{RowsInHand, TableChange, action_applied, cells_changed, pool_for, record_applied, row_added, row_at, streams_without, values_told, with_changes, with_row, without_row}
use Rattle.msi_transform_rows.specs.RowStreams.{brought, has_streams, row_stream, row_stream_gone, row_stream_stored, stored_as, stream_text, told_by_changes, told_by_row}
use Rattle.msi_transform_schema.specs.SchemaChanges.{SchemaChange, SchemaInHand, TableInHand, column_added, column_put, column_record_applied, column_row_added, column_told, columns_in_hand, columns_of_package, counted_on, describing_applied, describing_row, has_number, is_gone, is_unlisted, listing_applied, name_to_list, new_column_refusals, number_told, numbered_column_added, old_column_refusals, rows_of_package, streams_of_rows, table_in_hand, table_put, table_record_applied, text_told, was_dropped, with_column, with_table, with_table_added, with_table_found, with_table_gone}
use Rattle.msi_transform_rows.specs.declared.row.RowInHand.{RowInHand}
use Rattle.msi_transform_rows.specs.declared.row.RowStream.{RowStream}
use Rattle.msi_transform_rows.specs.declared.row.RowStream.TheVariants.{AsBefore, Gone, Brought}

module _ (key : List ℕ) (of_no_table : (name : List ℕ) → key ≢ table_key name) (of_no_row : (text : List ℕ) → key ≢ stream_key text) where
  -- nothing is said of it
  abbrev pub Silent : List Stored → Type 0
  Silent stored = AllByRecursion (λ (e : Stored). key ≢ e.name) stored

  pub joined : (xs ys : List Stored) → Silent xs → Silent ys → Silent (xs ++ ys)
  joined [] ys h g = g
  joined (x ∷ xs) ys h g = (h.0, joined xs ys h.1 g)

  pub each_silent : {X : Type 0} (f : X → List Stored) → ((x : X) → Silent (f x)) → (xs : List X) → Silent (flat_map f xs)
  each_silent f each [] = tt
  each_silent f each (x ∷ xs) = joined (f x) (flat_map f xs) (each x) (each_silent f each xs)

  pub if_silent : (b : Bool) (xs : List Stored) → Silent xs → Silent (if b then xs else [])
  if_silent true xs h = h
  if_silent false xs h = tt

  -- THE STREAM OF A ROW

  row_named : (b : Bool) (text : List ℕ) (bytes : Option (List ℕ)) → Silent (stored_as (if b then Some (stream_key text) else None) bytes)
  row_named true text bytes = (of_no_row text, tt)
  row_named false text bytes = tt

  pub row_silent : (table : List ℕ) (row_key : List Value) (bytes : Option (List ℕ)) → Silent (stored_as (row_stream table row_key) bytes)
  row_silent table row_key bytes = row_named (is_stream_name (stream_text table row_key)) (stream_text table row_key) bytes

  stored_silent : (t : TransformDef) (table : List ℕ) (row_key : List Value) (stream : RowStream) (stored : List Stored) → row_stream_stored t table row_key stream ≡ Ok stored → Silent stored
  stored_silent t table row_key AsBefore stored is = subst Silent (same_Ok [] stored is) tt
  stored_silent t table row_key Gone stored is = subst Silent (same_Ok (row_stream_gone table row_key) stored is) (row_silent table row_key None)
  stored_silent t table row_key Brought stored is =
      let (bytes, _, made) = ok_first (or_refused NotFound (brought t table row_key)) (λ (bytes : List ℕ). Ok (stored_as (row_stream table row_key) (Some bytes))) stored is in
      subst Silent (same_Ok (stored_as (row_stream table row_key) (Some bytes)) stored made) (row_silent table row_key (Some bytes))

  -- RECORDS OF ROWS

  abbrev pub RowsSilent : RowsInHand → Type 0
  RowsSilent s = Silent s.streams

  module _ (change : TableChange) where
    removed_by : (s t : RowsInHand) (row_key : List Value) (o : Option RowInHand)
        → option_map_or (λ (row : RowInHand). Ok (without_row change row_key s row)) o (unless_refused ((not change.passing.removed_row_missing, NotFound) ∷ []) s) ≡ Ok t
        → RowsSilent s → RowsSilent t
    removed_by s t row_key None is h = subst RowsSilent (not_refused ((not change.passing.removed_row_missing, NotFound) ∷ []) s t is).1 h
    removed_by s t row_key (Some row) is h = subst RowsSilent (same_Ok (without_row change row_key s row) t is)
        (joined s.streams (streams_without change row_key) h (if_silent (has_streams change.columns) (row_stream_gone change.name row_key) (row_silent change.name row_key None)))

    changes_keep : (s t : RowsInHand) (row_key : List Value) (told : List (ℕ × ValueRef)) (row : RowInHand) → with_changes change row_key told s row ≡ Ok t → RowsSilent s → RowsSilent t
    changes_keep s t row_key told row is h =
        let stream = unwrap_or (told_by_changes change.columns told) AsBefore in
        let left = unwrap_or (told_by_changes change.columns told) row.stream in
        let (stored, brings, rest) = ok_first (row_stream_stored change.by change.name row_key stream)
        (λ (stored : List Stored). or_refused InvalidInput (cells_changed change s.pool row.cells told) >>= λ (r : List ValueRef × PoolInUse). Ok (with_row row_key stored left s r)) t is in
        let (r, _, made) = ok_first (or_refused InvalidInput (cells_changed change s.pool row.cells told)) (λ (r : List ValueRef × PoolInUse). Ok (with_row row_key stored left s r)) t rest in
        subst RowsSilent (same_Ok (with_row row_key stored left s r) t made) (joined s.streams stored h (stored_silent change.by change.name row_key stream stored brings))

    changed_by : (s t : RowsInHand) (row_key : List Value) (told : List (ℕ × ValueRef)) (o : Option RowInHand)
        → option_map_or (with_changes change row_key told s) o (unless_refused ((not change.passing.changed_row_missing, NotFound) ∷ []) s) ≡ Ok t → RowsSilent s → RowsSilent t
    changed_by s t row_key told None is h = subst RowsSilent (not_refused ((not change.passing.changed_row_missing, NotFound) ∷ []) s t is).1 h
    changed_by s t row_key told (Some row) is h = changes_keep s t row_key told row is h

    added_keeps : (s t : RowsInHand) (row_key : List Value) (cells : List ValueRef) → row_added change s row_key cells ≡ Ok t → RowsSilent s → RowsSilent t
    added_keeps s t row_key cells is h =
        let stream = unwrap_or (told_by_row change.columns cells) AsBefore in
        let (pool, _, further) = ok_first (pool_for change s.rows s.pool row_key)
        (λ (pool : PoolInUse). row_stream_stored change.by change.name row_key stream >>= λ (stored : List Stored).
        or_refused InvalidInput (in_turn (cell_put true) pool (values_told change cells)) >>= λ (r : List ValueRef × PoolInUse). Ok (with_row row_key stored stream s r)) t is in
        let (stored, brings, rest) = ok_first (row_stream_stored change.by change.name row_key stream)
        (λ (stored : List Stored). or_refused InvalidInput (in_turn (cell_put true) pool (values_told change cells)) >>= λ (r : List ValueRef × PoolInUse). Ok (with_row row_key stored stream s r)) t further in
        let (r, _, made) = ok_first (or_refused InvalidInput (in_turn (cell_put true) pool (values_told change cells))) (λ (r : List ValueRef × PoolInUse). Ok (with_row row_key stored stream s r)) t rest in
        subst RowsSilent (same_Ok (with_row row_key stored stream s r) t made) (joined s.streams stored h (stored_silent change.by change.name row_key stream stored brings))

    row_by : (shapes : List Shape) (s t : RowsInHand) (r : Record) (action : Action) → action_applied change shapes s r action ≡ Ok t → RowsSilent s → RowsSilent t
    row_by shapes s t r Remove is h = removed_by s t (record_key change.by shapes r) (row_at (record_key change.by shapes r) s.rows) is h
    row_by shapes s t r (Change m) is h = changed_by s t (record_key change.by shapes r) (changes_of_record shapes r) (row_at (record_key change.by shapes r) s.rows) is h
    row_by shapes s t r (Add k) is h = added_keeps s t (record_key change.by shapes r) (added_cells shapes r) is h

    pub row_record_silent : (s : RowsInHand) (r : Record) (t : RowsInHand) → record_applied change s r ≡ Ok t → RowsSilent s → RowsSilent t
    row_record_silent s r t is h = row_by (shapes_of change.columns) s t r r.action is h

  -- RECORDS OF TABLES AND OF COLUMNS

  abbrev pub SchemaSilent : SchemaInHand → Type 0
  SchemaSilent s = Silent s.streams

  rows_silent : (name : List ℕ) (columns : List ColumnDef) (rows : List (List Value)) → Silent (streams_of_rows name columns rows)
  rows_silent name columns rows = if_silent (has_streams columns) (flat_map (λ (row : List Value). row_stream_gone name (key_of columns row)) rows)
      (each_silent (λ (row : List Value). row_stream_gone name (key_of columns row)) (λ row. row_silent name (key_of columns row) None) rows)

  module _ (change : SchemaChange) where
    gone_by : (b : Bool) (s t : SchemaInHand) (name : List ℕ) (table : TableInHand)
        → (if b then unless_refused ((not change.passing.removed_table_missing, NotFound) ∷ []) s else Ok (with_table_gone change.database name table s)) ≡ Ok t → SchemaSilent s → SchemaSilent t
    gone_by true s t name table is h = subst SchemaSilent (not_refused ((not change.passing.removed_table_missing, NotFound) ∷ []) s t is).1 h
    gone_by false s t name table is h =
        let columns = columns_of_package change.database name table.standing in
        let rows : List (List Value) = map (row_values change.database.pool.places) (rows_of_package change.database name table.standing) in
        subst SchemaSilent (same_Ok (with_table_gone change.database name table s) t is)
        (joined s.streams (stream_gone name ∷ streams_of_rows name columns rows) h (of_no_table name, rows_silent name columns rows))

    put_keeps : (s t : SchemaInHand) (name : List ℕ) → table_put change name s ≡ Ok t → SchemaSilent s → SchemaSilent t
    put_keeps s t name is h =
        let (u, unrefused, rest) = ok_first (unless_refused ((is_unlisted change.database name, InvalidInput) ∷ []) s)
        (λ (u : SchemaInHand). or_refused InvalidInput (in_turn (cell_put true) u.pool (Str name ∷ [])) >>= λ (r : List ValueRef × PoolInUse). Ok (with_table_added name u r)) t is in
        let (r, _, made) = ok_first (or_refused InvalidInput (in_turn (cell_put true) u.pool (Str name ∷ []))) (λ (r : List ValueRef × PoolInUse). Ok (with_table_added name u r)) t rest in
        let before : SchemaSilent u = subst SchemaSilent (not_refused ((is_unlisted change.database name, InvalidInput) ∷ []) s u unrefused).1 h in
        subst SchemaSilent (same_Ok (with_table_added name u r) t made) before

    come_by : (b : Bool) (s t : SchemaInHand) (name : List ℕ) (table : TableInHand)
        → (if b then table_put change name s else unless_refused ((not change.passing.added_table_exists, AlreadyExists) ∷ []) (with_table_found name table s)) ≡ Ok t → SchemaSilent s → SchemaSilent t
    come_by true s t name table is h = put_keeps s t name is h
    come_by false s t name table is h = subst SchemaSilent (not_refused ((not change.passing.added_table_exists, AlreadyExists) ∷ []) (with_table_found name table s) t is).1 h

    listing_by : (s t : SchemaInHand) (action : Action) (name : List ℕ) → listing_applied change s action name ≡ Ok t → SchemaSilent s → SchemaSilent t
    listing_by s t Remove name is h = let table = table_in_hand change.database s.tables name in gone_by (is_gone table.standing) s t name table is h
    listing_by s t (Add k) name is h = let table = table_in_hand change.database s.tables name in come_by (is_gone table.standing) s t name table is h
    listing_by s t (Change m) name is h = absurd cc

    pub table_record_silent : (shapes : List Shape) (s : SchemaInHand) (r : Record) (t : SchemaInHand) → table_record_applied change shapes s r ≡ Ok t → SchemaSilent s → SchemaSilent t
    table_record_silent shapes s r t is h =
        let (name, _, listed) = ok_first (or_refused InvalidData (name_to_list (value_at 0 (record_key change.by shapes r)))) (listing_applied change s r.action) t is in
        listing_by s t r.action name listed h

    column_put_keeps : (name : List ℕ) (table : TableInHand) (columns : List ColumnDef) (column : ColumnDef) (number : ℤ) (row : List Value) (s t : SchemaInHand)
        → column_put name table columns column number row s ≡ Ok t → SchemaSilent s → SchemaSilent t
    column_put_keeps name table columns column number row s t is h =
        let (u, unrefused, rest) = ok_first (unless_refused (new_column_refusals table.standing columns number column) s)
        (λ (u : SchemaInHand). or_refused InvalidInput (in_turn (cell_put true) u.pool row) >>= λ (r : List ValueRef × PoolInUse). Ok (with_column name table column number u r)) t is in
        let (r, _, made) = ok_first (or_refused InvalidInput (in_turn (cell_put true) u.pool row)) (λ (r : List ValueRef × PoolInUse). Ok (with_column name table column number u r)) t rest in
        let before : SchemaSilent u = subst SchemaSilent (not_refused (new_column_refusals table.standing columns number column) s u unrefused).1 h in
        subst SchemaSilent (same_Ok (with_column name table column number u r) t made) before

    numbered_by : (b : Bool) (described : Bool) (name : List ℕ) (table : TableInHand) (columns : List ColumnDef) (column : ColumnDef) (number : ℤ) (row : List Value) (s t : SchemaInHand)
        → (if b then unless_refused (old_column_refusals change described) (with_table name table s) else column_put name table columns column number row s) ≡ Ok t → SchemaSilent s → SchemaSilent t
    numbered_by true described name table columns column number row s t is h = subst SchemaSilent (not_refused (old_column_refusals change described) (with_table name table s) t is).1 h
    numbered_by false described name table columns column number row s t is h = column_put_keeps name table columns column number row s t is h

    numbered_keeps : (name : List ℕ) (table : TableInHand) (column : ColumnDef) (number : ℤ) (row : List Value) (s t : SchemaInHand)
        → numbered_column_added change name table column number row s ≡ Ok t → SchemaSilent s → SchemaSilent t
    numbered_keeps name table column number row s t is h =
        numbered_by (has_number (length (columns_in_hand change.database name table)) number) _ name table (columns_in_hand change.database name table) column number row s t is h

    column_keeps : (row : List Value) (s t : SchemaInHand) (name : List ℕ) → column_added change row s name ≡ Ok t → SchemaSilent s → SchemaSilent t
    column_keeps row s t name is h =
        let table = table_in_hand change.database s.tables name in
        let number = number_told table.standing (length (columns_in_hand change.database name table)) (value_at 1 row) in
        let numbered : TableInHand = record { standing = counted_on (value_at 1 row) table.standing; added = table.added } in
        let (u, unrefused, rest) = ok_first (unless_refused ((is_gone table.standing, NotFound) ∷ []) s)
        (λ (u : SchemaInHand). or_refused InvalidData (column_told (value_at 2 row) (value_at 3 row)) >>= λ (column : ColumnDef).
        numbered_column_added change name numbered column number (describing_row name number (value_at 2 row) (value_at 3 row)) u) t is in
        let (column, _, made) = ok_first (or_refused InvalidData (column_told (value_at 2 row) (value_at 3 row)))
        (λ (column : ColumnDef). numbered_column_added change name numbered column number (describing_row name number (value_at 2 row) (value_at 3 row)) u) t rest in
        numbered_keeps name numbered column number (describing_row name number (value_at 2 row) (value_at 3 row)) u t made
        (subst SchemaSilent (not_refused ((is_gone table.standing, NotFound) ∷ []) s u unrefused).1 h)

    column_row_keeps : (row : List Value) (s t : SchemaInHand) → column_row_added change row s ≡ Ok t → SchemaSilent s → SchemaSilent t
    column_row_keeps row s t is h =
        let (name, _, made) = ok_first (or_refused NotFound (text_told (value_at 0 row))) (column_added change row s) t is in
        column_keeps row s t name made h

    describing_by : (shapes : List Shape) (s t : SchemaInHand) (r : Record) (action : Action) → describing_applied change shapes s r action ≡ Ok t → SchemaSilent s → SchemaSilent t
    describing_by shapes s t r Remove is h = subst SchemaSilent (not_refused ((not (was_dropped s (value_at 0 (record_key change.by shapes r))), InvalidInput) ∷ []) s t is).1 h
    describing_by shapes s t r (Change m) is h = absurd cc
    describing_by shapes s t r (Add k) is h = column_row_keeps (map (value_in change.by) (added_cells shapes r)) s t is h

    pub column_record_silent : (shapes : List Shape) (s : SchemaInHand) (r : Record) (t : SchemaInHand) → column_record_applied change shapes s r ≡ Ok t → SchemaSilent s → SchemaSilent t
    column_record_silent shapes s r t is h = describing_by shapes s t r r.action is h
