-- What the records of a transform do to the rows of a table.
use Rattle.std.specs.Prelude.{ℕ, ◌+◌, true, not, List, [], ◌∷◌, ◌++◌, map, filter, zip, length, Option, Some}
use Rattle.std.specs.Prelude.{option_and_then, unwrap_or, if◌then◌else◌, nat_lt, Result, Ok}
use Rattle.std.specs.List.{fold}
use Rattle.std.specs.Option.{option_map_or}
use Rattle.std.specs.FinMap.{find, put}
use Rattle.std.specs.Ordering.{eq_by_cmp}
use Rattle.msi_base.specs.declared.errors.ErrorKind.{ErrorKind}
use Rattle.msi_base.specs.declared.errors.ErrorKind.TheVariants.{AlreadyExists, InvalidInput, NotFound}
use Rattle.msi_base.specs.Refusals.{or_refused, unless_refused, ◌>>=◌}
use Rattle.msi_pool.specs.Pool.{Place}
use Rattle.msi_table_cells.specs.declared.cell.ValueRef.{ValueRef}
use Rattle.msi_table_cells.specs.declared.cell.ValueRef.TheVariants as cell
use Rattle.msi_table_cells.specs.CellValues.{row_values}
use Rattle.msi_table_cells.specs.KeyOrder.{key_of}
use Rattle.msi_table_values.specs.declared.value.Value.{Value}
use Rattle.msi_table_values.specs.declared.value.Value.TheVariants as value
use Rattle.msi_table_values.specs.Columns.{ColumnDef}
use Rattle.msi_database_changes.specs.Texts.{PoolInUse, cell_put, cell_released, in_turn}
use Rattle.msi_database_changes.specs.Setting.{cell_exchanged}
use Rattle.msi_database_changes.specs.declared.storing.Stored.{Stored}
use Rattle.msi_transform_records.specs.declared.records.Record.{Record}
use Rattle.msi_transform_records.specs.declared.action.Action.{Action}
use Rattle.msi_transform_records.specs.declared.action.Action.TheVariants.{Add, Remove, Change}
use Rattle.msi_transform_records.specs.declared.shape.Shape.{Shape}
use Rattle.msi_transform_records.specs.RecordCells.{added_cells, changes_of_record}
use Rattle.msi_transform_rows.specs.KeyOfRows.{key_cmp}
use Rattle.msi_transform.specs.Transforms.{TransformDef, record_key, shapes_of, value_in}
use Rattle.msi_transform_rows.specs.RowStreams.{has_streams, is_of_streams, row_stream_gone, row_stream_stored}
use Rattle.msi_transform_rows.specs.RowStreams.{told_by_changes, told_by_row, type_in}
use Rattle.msi_transform.specs.declared.conditions.ErrorConditions.{ErrorConditions}
use Rattle.msi_transform_rows.specs.declared.row.RowInHand.{RowInHand}
use Rattle.msi_transform_rows.specs.declared.row.RowStream.{RowStream}
use Rattle.msi_transform_rows.specs.declared.row.RowStream.TheVariants.{AsBefore}

-- rows beside their keys, in the order of keys
abbrev pub Rows : Type 0
Rows = List (List Value × RowInHand)

abbrev pub row_at : List Value → Rows → Option RowInHand
row_at key rows = find key_cmp key rows

abbrev pub with_row_at : List Value → RowInHand → Rows → Rows
with_row_at key row rows = put key_cmp key row rows

abbrev pub without_row_at : List Value → Rows → Rows
without_row_at key rows = filter (λ e. not (eq_by_cmp key_cmp key e.0)) rows

-- rows beside their keys, and in the order of these
abbrev pub keyed : List ColumnDef → List Place → RowInHand → List Value × RowInHand
keyed columns places row = (key_of columns (row_values places row.cells), row)

abbrev pub by_key : Rows → Rows
by_key [] = []
by_key (e ∷ es) = with_row_at e.0 e.1 (by_key es)

-- the cells of rows, without keys and with them
abbrev pub cells_in_hand : List RowInHand → List (List ValueRef)
cells_in_hand rows = map (λ (row : RowInHand). row.cells) rows

abbrev pub cells_of : Rows → List (List ValueRef)
cells_of rows = map (λ e. e.1.cells) rows

-- the table whose rows are changed, by which transform, and which faults pass
pub record TableChange : Type 0 where
  pub name : List ℕ
  pub columns : List ColumnDef
  pub by : TransformDef
  pub passing : ErrorConditions

-- the rows of the table, the pool, and what becomes of the streams of rows, in turn
pub record RowsInHand : Type 0 where
  pub rows : Rows
  pub pool : PoolInUse
  pub streams : List Stored

-- a value as a cell of the column holds it: that of a stream is never null
abbrev pub held_in : ColumnDef × Value → Value
held_in e = if is_of_streams e.0.coltype then value.Binary else e.1

-- a row is removed: its texts are given back by column, and its stream goes
abbrev pub streams_without : TableChange → List Value → List Stored
streams_without change key = if has_streams change.columns then row_stream_gone change.name key else []

abbrev pub without_row : TableChange → List Value → RowsInHand → RowInHand → RowsInHand
without_row change key s row = record {
  rows = without_row_at key s.rows;
  pool = fold cell_released s.pool row.cells;
  streams = s.streams ++ streams_without change key;
}

abbrev pub row_removed : TableChange → RowsInHand → List Value → Result RowsInHand ErrorKind
row_removed change s key = option_map_or (λ row. Ok (without_row change key s row))
    (row_at key s.rows) (unless_refused ((not change.passing.removed_row_missing, NotFound) ∷ []) s)

-- a row is changed: in each column that the record tells, the old text is given back, and then the new one taken
abbrev pub cell_changed : TableChange → PoolInUse → List ValueRef → ℕ × ValueRef → Option (List ValueRef × PoolInUse)
cell_changed change pool cells e = if is_of_streams (type_in change.columns e.0) then Some (cells, pool)
    else cell_exchanged true pool cells e.0 (value_in change.by e.1)

abbrev pub cells_changed : TableChange → PoolInUse → List ValueRef → List (ℕ × ValueRef)
    → Option (List ValueRef × PoolInUse)
cells_changed change pool cells [] = Some (cells, pool)
cells_changed change pool cells (e ∷ es) =
    option_and_then (λ r. cells_changed change r.1 r.0 es) (cell_changed change pool cells e)

abbrev pub with_row : List Value → List Stored → RowStream → RowsInHand → List ValueRef × PoolInUse → RowsInHand
with_row key stored stream s r = record {
  rows = with_row_at key (record { cells = r.0; stream = stream }) s.rows;
  pool = r.1;
  streams = s.streams ++ stored;
}

abbrev pub with_changes : TableChange → List Value → List (ℕ × ValueRef) → RowsInHand → RowInHand
    → Result RowsInHand ErrorKind
with_changes change key told s row = let stream = unwrap_or (told_by_changes change.columns told) AsBefore in
    row_stream_stored change.by change.name key stream >>=
    λ stored. or_refused InvalidInput (cells_changed change s.pool row.cells told) >>=
    λ r. Ok (with_row key stored (unwrap_or (told_by_changes change.columns told) row.stream) s r)

abbrev pub row_changed : TableChange → RowsInHand → List Value → List (ℕ × ValueRef) → Result RowsInHand ErrorKind
row_changed change s key told = option_map_or (with_changes change key told s)
    (row_at key s.rows) (unless_refused ((not change.passing.changed_row_missing, NotFound) ∷ []) s)

-- a row is added: its texts are taken by column; one that is there gives all back first
abbrev pub pool_for : TableChange → Rows → PoolInUse → List Value → Result PoolInUse ErrorKind
pool_for change rows pool key = option_map_or
    (λ (row : RowInHand). unless_refused ((not change.passing.added_row_exists, AlreadyExists) ∷ [])
    (fold cell_released pool row.cells))
    (row_at key rows) (unless_refused ((nat_lt 65535 (length rows), InvalidInput) ∷ []) pool)

-- the values that a row is given
abbrev pub values_told : TableChange → List ValueRef → List Value
values_told change cells = map held_in (zip change.columns (map (value_in change.by) cells))

abbrev pub row_added : TableChange → RowsInHand → List Value → List ValueRef → Result RowsInHand ErrorKind
row_added change s key cells = let stream = unwrap_or (told_by_row change.columns cells) AsBefore in
    pool_for change s.rows s.pool key >>= λ pool. row_stream_stored change.by change.name key stream >>=
    λ stored. or_refused InvalidInput (in_turn (cell_put true) pool (values_told change cells)) >>=
    λ r. Ok (with_row key stored stream s r)

-- a record, by what it does
abbrev pub action_applied : TableChange → List Shape → RowsInHand → Record → Action → Result RowsInHand ErrorKind
action_applied change shapes s r Remove = row_removed change s (record_key change.by shapes r)
action_applied change shapes s r (Change m) =
    row_changed change s (record_key change.by shapes r) (changes_of_record shapes r)
action_applied change shapes s r (Add k) = row_added change s (record_key change.by shapes r) (added_cells shapes r)

abbrev pub record_applied : TableChange → RowsInHand → Record → Result RowsInHand ErrorKind
record_applied change s r = action_applied change (shapes_of change.columns) s r r.action
