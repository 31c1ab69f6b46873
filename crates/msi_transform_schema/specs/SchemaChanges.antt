-- What a transform's records of `_Tables` and `_Columns` do: tables go and come, and get columns.
use Rattle.std.specs.Prelude.{ℕ, ℤ, pos, int_le, int_lt, ◌+◌, Bool, true, false, not, List, [], ◌∷◌, ◌++◌, map, length}
use Rattle.std.specs.Prelude.{Option, Some, None, option_map, unwrap_or, if◌then◌else◌, nat_le, nat_lt, bytes_eq}
use Rattle.std.specs.Prelude.{◌&&◌, ◌||◌, ◌==◌, filter_map, Result, Ok, Err}
use Rattle.std.specs.Int.{w16, cast_unsigned}
use Rattle.std.specs.List.{fold, flat_map, list_all, list_any, range_with_len}
use Rattle.std.specs.Option.{option_map_or}
use Rattle.std.specs.FinMap.{find, put}
use Rattle.std.specs.Ordering.{int_cmp, is_eq}
use Rattle.msi_base.specs.Lists.{list_cmp}
use Rattle.msi_base.specs.declared.errors.ErrorKind.{ErrorKind}
use Rattle.msi_base.specs.declared.errors.ErrorKind.TheVariants.{AlreadyExists, InvalidData, InvalidInput, NotFound}
use Rattle.msi_base.specs.Refusals.{Refusals, or_refused, unless_refused, ◌>>=◌}
use Rattle.msi_table_cells.specs.declared.cell.ValueRef.{ValueRef}
use Rattle.msi_table_cells.specs.CellValues.{row_values}
use Rattle.msi_table_cells.specs.KeyOrder.{key_of, same_key}
use Rattle.msi_table_values.specs.declared.value.Value.{Value}
use Rattle.msi_table_values.specs.declared.value.Value.TheVariants.{Null, Int, Str, Binary}
use Rattle.msi_table_values.specs.Columns.{ColumnDef, begun_column, column_of_bits, has_column}
use Rattle.msi_database_schema.specs.Keys.{is_table_name, table_key}
use Rattle.msi_database_schema.specs.Schema.{is_of_16_bits, value_at}
use Rattle.msi_database_schema.specs.System.{is_schema_table, validation_name}
use Rattle.msi_database_changes.specs.Database.{Database, has_table, rows_of, table_at}
use Rattle.msi_database_changes.specs.Texts.{PoolInUse, cell_put, cell_released, in_turn, rows_released}
use Rattle.msi_database_changes.specs.declared.storing.Stored.{Stored}
use Rattle.msi_database_storage.specs.Storing.{stream_gone}
use Rattle.msi_database_storage.specs.Streams.{Streams}
use Rattle.msi_transform_records.specs.declared.records.Record.{Record}
use Rattle.msi_transform_records.specs.declared.action.Action.{Action}
use Rattle.msi_transform_records.specs.declared.action.Action.TheVariants.{Add, Remove, Change}
use Rattle.msi_transform_records.specs.declared.shape.Shape.{Shape}
use Rattle.msi_transform_records.specs.RecordCells.{added_cells}
use Rattle.msi_transform.specs.Transforms.{TransformDef, record_key, value_in}
use Rattle.msi_transform_rows.specs.RowStreams.{has_streams, row_stream_gone}
pub use Rattle.msi_transform_schema.specs.TablesInHand.{TableInHand}
use Rattle.msi_transform_rows.specs.RowChanges.{Rows, row_at, with_row_at, without_row_at}
use Rattle.msi_transform.specs.declared.conditions.ErrorConditions.{ErrorConditions}
use Rattle.msi_transform_rows.specs.declared.row.RowInHand.{RowInHand}
use Rattle.msi_transform_rows.specs.declared.row.RowStream.TheVariants.{AsBefore}
use Rattle.msi_transform_schema.specs.declared.schema.Standing.{Standing}
use Rattle.msi_transform_schema.specs.declared.schema.Standing.TheVariants as stands

-- the tables that records tell of, by name
abbrev pub TablesTold : Type 0
TablesTold = List (List ℕ × TableInHand)

-- these, the rows of `_Tables` and of `_Columns`, the pool, and what becomes of streams
pub record SchemaInHand : Type 0 where
  pub tables : TablesTold
  pub listed : Rows
  pub described : Rows
  pub pool : PoolInUse
  pub streams : List Stored

-- the package's tables and streams, the transform, and which faults pass
pub record SchemaChange : Type 0 where
  pub database : Database
  pub streams : Streams
  pub by : TransformDef
  pub passing : ErrorConditions

-- how a table of a name stands, told of or not
abbrev pub untold_table : Database → List ℕ → TableInHand
untold_table d name = record { standing = if has_table name d then stands.Kept else stands.Gone; added = [] }

abbrev pub table_in_hand : Database → TablesTold → List ℕ → TableInHand
table_in_hand d told name = unwrap_or (find list_cmp name told) (untold_table d name)

-- the columns that it has of the package, and all of them
abbrev pub columns_of_package : Database → List ℕ → Standing → List ColumnDef
columns_of_package d name stands.Gone = []
columns_of_package d name stands.Added = []
columns_of_package d name stands.Kept = unwrap_or (option_map (λ t. t.columns) (table_at name d)) []
columns_of_package d name (stands.Found next) = unwrap_or (option_map (λ t. t.columns) (table_at name d)) []

abbrev pub columns_in_hand : Database → List ℕ → TableInHand → List ColumnDef
columns_in_hand d name t = columns_of_package d name t.standing ++ t.added

-- the rows that it has of the package
abbrev pub rows_of_package : Database → List ℕ → Standing → List (List ValueRef)
rows_of_package d name stands.Gone = []
rows_of_package d name stands.Added = []
rows_of_package d name stands.Kept = unwrap_or (option_map rows_of (table_at name d)) []
rows_of_package d name (stands.Found next) = unwrap_or (option_map rows_of (table_at name d)) []

abbrev pub is_gone : Standing → Bool
is_gone stands.Gone = true
is_gone stands.Added = false
is_gone stands.Kept = false
is_gone (stands.Found next) = false

abbrev pub is_added : Standing → Bool
is_added stands.Added = true
is_added stands.Gone = false
is_added stands.Kept = false
is_added (stands.Found next) = false

-- a row of a system table, which has no stream
abbrev pub plain_row : List ValueRef → RowInHand
plain_row cells = record { cells = cells; stream = AsBefore }

-- A TABLE GOES: its rows give their texts back, then those of `_Columns`, then that of `_Tables`; its stream goes, and
-- those of its rows
abbrev pub column_key : List ℕ → ℕ → List Value
column_key name number = Str name ∷ Int (pos number) ∷ []

abbrev pub column_keys : Database → List ℕ → TableInHand → List (List Value)
column_keys d name t = map (column_key name) (range_with_len 1 (length (columns_in_hand d name t)))

abbrev pub without_keys : Rows → List (List Value) → Rows
without_keys rows keys = fold (λ rows key. without_row_at key rows) rows keys

abbrev pub released_at : Rows → PoolInUse → List (List Value) → PoolInUse
released_at rows pool keys =
    rows_released pool (map (λ (row : RowInHand). row.cells) (filter_map (λ key. row_at key rows) keys))

abbrev pub streams_of_rows : List ℕ → List ColumnDef → List (List Value) → List Stored
streams_of_rows name columns rows = if has_streams columns
    then flat_map (λ row. row_stream_gone name (key_of columns row)) rows else []

abbrev pub with_table_gone : Database → List ℕ → TableInHand → SchemaInHand → SchemaInHand
with_table_gone d name t s =
    let rows = rows_of_package d name t.standing in
    let columns = columns_of_package d name t.standing in
    let keys = column_keys d name t in
    record {
      tables = put list_cmp name (record { standing = stands.Gone; added = [] }) s.tables;
      listed = without_row_at (Str name ∷ []) s.listed;
      described = without_keys s.described keys;
      pool = released_at s.listed (released_at s.described (rows_released s.pool rows) keys) ((Str name ∷ []) ∷ []);
      streams = s.streams
          ++ stream_gone name ∷ streams_of_rows name columns (map (row_values d.pool.places) rows);
    }

abbrev pub table_removed : SchemaChange → List ℕ → SchemaInHand → Result SchemaInHand ErrorKind
table_removed change name s = let t = table_in_hand change.database s.tables name in
    if is_gone t.standing
    then unless_refused ((not change.passing.removed_table_missing, NotFound) ∷ []) s
    else Ok (with_table_gone change.database name t s)

-- A TABLE COMES, without columns; one that is there is found
abbrev pub as_found : Standing → Standing
as_found stands.Added = stands.Added
as_found stands.Kept = stands.Found 1
as_found (stands.Found next) = stands.Found 1
as_found stands.Gone = stands.Gone

abbrev pub with_table_found : List ℕ → TableInHand → SchemaInHand → SchemaInHand
with_table_found name t s =
    record s { tables = put list_cmp name (record { standing = as_found t.standing; added = t.added }) s.tables }

-- a stream of `_Validation` that no table lists has rows already
abbrev pub is_unlisted : Database → List ℕ → Bool
is_unlisted d name = bytes_eq name validation_name && not (length d.unlisted_validation == 0)

abbrev pub with_table_added : List ℕ → SchemaInHand → List ValueRef × PoolInUse → SchemaInHand
with_table_added name s r = record s {
  tables = put list_cmp name (record { standing = stands.Added; added = [] }) s.tables;
  listed = with_row_at (Str name ∷ []) (plain_row r.0) s.listed;
  pool = r.1;
}

abbrev pub table_put : SchemaChange → List ℕ → SchemaInHand → Result SchemaInHand ErrorKind
table_put change name s = unless_refused ((is_unlisted change.database name, InvalidInput) ∷ []) s >>=
    λ s. or_refused InvalidInput (in_turn (cell_put true) s.pool (Str name ∷ [])) >>=
    λ r. Ok (with_table_added name s r)

abbrev pub table_added : SchemaChange → List ℕ → SchemaInHand → Result SchemaInHand ErrorKind
table_added change name s = let t = table_in_hand change.database s.tables name in
    if is_gone t.standing then table_put change name s
    else unless_refused ((not change.passing.added_table_exists, AlreadyExists) ∷ []) (with_table_found name t s)

-- a record of `_Tables`
abbrev pub is_name_to_list : List ℕ → Bool
is_name_to_list name = is_table_name name && not (is_schema_table name)

abbrev pub name_to_list : Value → Option (List ℕ)
name_to_list (Str name) = if is_name_to_list name then Some name else None
name_to_list Null = None
name_to_list (Int n) = None
name_to_list Binary = None

abbrev pub listing_applied : SchemaChange → SchemaInHand → Action → List ℕ → Result SchemaInHand ErrorKind
listing_applied change s Remove name = table_removed change name s
listing_applied change s (Add k) name = table_added change name s
listing_applied change s (Change m) name = Err InvalidInput

abbrev pub table_record_applied : SchemaChange → List Shape → SchemaInHand → Record → Result SchemaInHand ErrorKind
table_record_applied change shapes s r =
    or_refused InvalidData (name_to_list (value_at 0 (record_key change.by shapes r))) >>=
    listing_applied change s r.action

-- A COLUMN COMES, with its number, or with the next one where that is null
abbrev pub text_told : Value → Option (List ℕ)
text_told (Str text) = Some text
text_told Null = None
text_told (Int n) = None
text_told Binary = None

-- a column as its row of `_Columns` tells it: nothing without a name, or where the bits, which are 16, are no type
abbrev pub column_told : Value → Value → Option ColumnDef
column_told (Str name) (Int bits) = if (length name == 0) || not (is_of_16_bits bits) then None
    else column_of_bits (begun_column name) (cast_unsigned w16 bits)
column_told _ _ = None

abbrev pub next_number : Standing → ℕ → ℕ
next_number (stands.Found next) count = next
next_number stands.Kept count = count + 1
next_number stands.Added count = count + 1
next_number stands.Gone count = count + 1

-- the number of a column that comes to so many
abbrev pub number_told : Standing → ℕ → Value → ℤ
number_told standing count (Int n) = n
number_told standing count _ = pos (next_number standing count)

-- where a table was found, the next column without a number has the next one
abbrev pub counted_on : Value → Standing → Standing
counted_on Null (stands.Found next) = stands.Found (next + 1)
counted_on number standing = standing

-- whether one of so many columns has this number, from 1 on
abbrev pub has_number : ℕ → ℤ → Bool
has_number count number = int_lt (pos 0) number && int_le number (pos count)

-- the row that describes a column, and whether `_Columns` has it
abbrev pub describing_row : List ℕ → ℤ → Value → Value → List Value
describing_row table number column bits = Str table ∷ Int number ∷ column ∷ bits ∷ []

abbrev pub is_described : SchemaInHand → List ℕ → ℤ → List Value → Bool
is_described s table number row = option_map_or
    (λ (held : RowInHand). same_key (row_values s.pool.places held.cells) row)
    (row_at (Str table ∷ Int number ∷ []) s.described) false

-- why a column that a table has isn't added once more, and why it gets no such column behind those that it has
abbrev pub old_column_refusals : SchemaChange → Bool → Refusals
old_column_refusals change described =
    (not described, InvalidInput) ∷ (not change.passing.added_table_exists, AlreadyExists) ∷ []

abbrev pub is_next : ℕ → ℤ → Bool
is_next count number = is_eq (int_cmp number (pos (count + 1)))

abbrev pub new_column_refusals : Standing → List ColumnDef → ℤ → ColumnDef → Refusals
new_column_refusals standing columns number column = (not (is_next (length columns) number), InvalidData)
    ∷ (has_column column.name columns, InvalidData)
    ∷ (column.is_primary_key && not (is_added standing), InvalidInput)
    ∷ (nat_le 32 (length columns), InvalidInput) ∷ []

abbrev pub with_table : List ℕ → TableInHand → SchemaInHand → SchemaInHand
with_table name t s = record s { tables = put list_cmp name t s.tables }

abbrev pub with_column : List ℕ → TableInHand → ColumnDef → ℤ → SchemaInHand → List ValueRef × PoolInUse → SchemaInHand
with_column name t column number s r = record s {
  tables = put list_cmp name (record { standing = t.standing; added = t.added ++ column ∷ [] }) s.tables;
  described = with_row_at (Str name ∷ Int number ∷ []) (plain_row r.0) s.described;
  pool = r.1;
}

abbrev pub column_put : List ℕ → TableInHand → List ColumnDef → ColumnDef → ℤ → List Value → SchemaInHand
    → Result SchemaInHand ErrorKind
column_put name t columns column number row s =
    unless_refused (new_column_refusals t.standing columns number column) s >>=
    λ s. or_refused InvalidInput (in_turn (cell_put true) s.pool row) >>=
    λ r. Ok (with_column name t column number s r)

abbrev pub numbered_column_added : SchemaChange → List ℕ → TableInHand → ColumnDef → ℤ → List Value → SchemaInHand
    → Result SchemaInHand ErrorKind
numbered_column_added change name t column number row s =
    let columns = columns_in_hand change.database name t in
    if has_number (length columns) number
    then unless_refused (old_column_refusals change (is_described s name number row)) (with_table name t s)
    else column_put name t columns column number row s

-- the cells of an added row of `_Columns` stand for the table, the number, the name and the bits of the type
abbrev pub column_added : SchemaChange → List Value → SchemaInHand → List ℕ → Result SchemaInHand ErrorKind
column_added change row s name =
    let t = table_in_hand change.database s.tables name in
    let number = number_told t.standing (length (columns_in_hand change.database name t)) (value_at 1 row) in
    unless_refused ((is_gone t.standing, NotFound) ∷ []) s >>=
    λ s. or_refused InvalidData (column_told (value_at 2 row) (value_at 3 row)) >>=
    λ column. numbered_column_added change name
    (record { standing = counted_on (value_at 1 row) t.standing; added = t.added })
    column number (describing_row name number (value_at 2 row) (value_at 3 row)) s

abbrev pub column_row_added : SchemaChange → List Value → SchemaInHand → Result SchemaInHand ErrorKind
column_row_added change row s = or_refused NotFound (text_told (value_at 0 row)) >>= column_added change row s

-- the rows of a table that the transform has dropped are gone
abbrev pub was_dropped : SchemaInHand → Value → Bool
was_dropped s (Str name) = option_map_or (λ (t : TableInHand). is_gone t.standing) (find list_cmp name s.tables) false
was_dropped s Null = false
was_dropped s (Int n) = false
was_dropped s Binary = false

-- a record of `_Columns`
abbrev pub describing_applied : SchemaChange → List Shape → SchemaInHand → Record → Action
    → Result SchemaInHand ErrorKind
describing_applied change shapes s r Remove = unless_refused
    ((not (was_dropped s (value_at 0 (record_key change.by shapes r))), InvalidInput) ∷ []) s
describing_applied change shapes s r (Change m) = Err InvalidInput
describing_applied change shapes s r (Add k) =
    column_row_added change (map (value_in change.by) (added_cells shapes r)) s

abbrev pub column_record_applied : SchemaChange → List Shape → SchemaInHand → Record → Result SchemaInHand ErrorKind
column_record_applied change shapes s r = describing_applied change shapes s r r.action

-- a table that is added gets a column, and one of the key
abbrev pub is_complete : TableInHand → Bool
is_complete t = not (is_added t.standing) || list_any (λ c. c.is_primary_key) t.added

abbrev pub are_complete : SchemaInHand → Bool
are_complete s = list_all (λ e. is_complete e.1) s.tables
