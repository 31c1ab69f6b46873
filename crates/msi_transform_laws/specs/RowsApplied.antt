-- Applying the records of a table to its rows, beside carrying them out on the rows' values.
use Rattle.std.specs.Prelude.{◌≡◌, ℕ, ◌+◌, ◌<◌, ◌≤◌, Bool, true, false, ◌&&◌, T, ⊤, List, [], ◌∷◌, map, filter, zip}
use Rattle.std.specs.Prelude.{length, count_by, ◌==◌, Option, Some, None, option_and_then, Ok}
use Rattle.std.specs.FinMap.{find, is_sorted}
use Rattle.std.specs.List.{AllByRecursion, list_any}
use Rattle.msi_pool.specs.Pool.{Place}
use Rattle.msi_pool.specs.FirstFitLaws.{count_at, text_at}
use Rattle.msi_table.specs.Census.{numbers_of_rows}
use Rattle.msi_table_cells.specs.CellValues.{row_values}
use Rattle.msi_table_values.specs.declared.value.Value.{Value}
use Rattle.msi_table_values.specs.declared.value.Value.TheVariants.{Null, Int, Str, Binary}
use Rattle.msi_table_values.specs.Columns.{ColumnDef}
use Rattle.msi_database_storage.specs.Streams.{Streams, stream_at}
use Rattle.msi_transform_records.specs.declared.records.Record.{Record}
use Rattle.msi_transform_records.specs.declared.shape.Shape.{Shape}
use Rattle.msi_transform_records.specs.Actions.{told}
use Rattle.msi_transform.specs.Transforms.{TransformDef, shapes_of}
use Rattle.msi_transform_rows.specs.KeyOfRows.{key_cmp}
use Rattle.msi_transform_rows.specs.RecordRefusals.{in_turn_from}
use Rattle.msi_transform_rows.specs.RowChanges.{Rows, RowsInHand, TableChange, cells_of, held_in, record_applied}
use Rattle.msi_transform_rows.specs.RowStreams.{brought, has_streams, is_of_streams, row_stream}
use Rattle.msi_transform_rows.specs.declared.row.RowInHand.{RowInHand}
use Rattle.msi_transform_rows.specs.declared.row.RowStream.{RowStream}
use Rattle.msi_transform_rows.specs.declared.row.RowStream.TheVariants.{AsBefore, Gone, Brought}
use Rattle.msi_transform_making.specs.Making.{ToldRecord, ToldRow, ToldRows}
use Rattle.msi_transform_laws.specs.CanFollow.{CanFollowInTurn}
use Rattle.msi_transform_laws.specs.CarriedOut.{carried_out, is_key_of_streams, is_of_key}
use Rattle.msi_transform_laws.specs.RecordsRead.{action_and_values, as_values}

-- ROWS OF CELLS BESIDE ROWS OF VALUES

-- a row's values as its cells hold them: those in columns of streams are never null
abbrev pub values_held : List ColumnDef → List Value → List Value
values_held columns values = map held_in (zip columns values)

-- the stream that a row in hand is to have: the package's, none, or the transform's
abbrev pub stream_in_hand : Streams → TableChange → List Value → RowStream → Option (List ℕ)
stream_in_hand streams change key AsBefore =
    option_and_then (λ name. stream_at name streams) (row_stream change.name key)
stream_in_hand streams change key Gone = None
stream_in_hand streams change key Brought = brought change.by change.name key

-- a row in hand has the values of another row, and its stream
pub record HasValuesOf (streams : Streams) (change : TableChange) (places : List Place) (key : List Value)
    (row : RowInHand) (other : ToldRow) : Type 0 where
  pub long : length row.cells ≡ length change.columns
  pub values : row_values places row.cells ≡ values_held change.columns other.values
  pub stream : has_streams change.columns ≡ true → stream_in_hand streams change key row.stream ≡ other.stream

-- both have a row of a key, or neither has
abbrev pub AreAlike : Streams → TableChange → List Place → List Value → Option RowInHand → Option ToldRow → Type 0
AreAlike streams change places key None None = ⊤
AreAlike streams change places key (Some row) (Some other) = HasValuesOf streams change places key row other
AreAlike streams change places key None (Some other) = ⊥
AreAlike streams change places key (Some row) None = ⊥

-- rows in hand, in the order of their keys, have the keys, values and streams of other rows
pub record HaveValuesOf (streams : Streams) (change : TableChange) (places : List Place) (rows : Rows)
    (others : ToldRows) : Type 0 where
  pub sorted : T (is_sorted key_cmp rows)
  pub sorted_too : T (is_sorted key_cmp others)
  pub many : length rows ≡ length others
  pub each : (key : List Value)
      → AreAlike streams change places key (find key_cmp key rows) (find key_cmp key others)

-- RECORDS

-- the columns that a record names, each with its number and the value
abbrev pub named_values : List ColumnDef → ToldRecord → List ((ℕ × Shape) × Value)
named_values columns r = zip (told (shapes_of columns) r.action) r.values

abbrev pub is_binary : Value → Bool
is_binary Binary = true
is_binary Null = false
is_binary (Int n) = false
is_binary (Str text) = false

abbrev pub is_brought : (ℕ × Shape) × Value → Bool
is_brought e = is_of_streams e.0.1.coltype && is_binary e.1

-- a record has a value for each column that it names, those of its key among them, and a stream where one of its values
-- is one: that of this key in the transform
pub record IsInTransform (change : TableChange) (r : ToldRecord) : Type 0 where
  pub many : length r.values ≡ length (told (shapes_of change.columns) r.action)
  pub key : map (λ e. e.1) (filter is_of_key (named_values change.columns r)) ≡ r.key
  pub brings : list_any is_brought (named_values change.columns r) ≡ true
      → (bytes : List ℕ) × (r.stream ≡ Some bytes) × (brought change.by change.name r.key ≡ Some bytes)
  pub without : list_any is_brought (named_values change.columns r) ≡ false → r.stream ≡ None

-- a record says the same as another whose values are seen
abbrev pub SaysSame : TransformDef → ToldRecord → Record → Type 0
SaysSame t r stored = as_values t stored ≡ action_and_values r

abbrev pub SaySame : TransformDef → List ToldRecord → List Record → Type 0
SaySame t rs stored = map (as_values t) stored ≡ map action_and_values rs

-- THE POOL

-- how many of these are texts
abbrev pub texts_in : List Value → ℕ
texts_in [] = 0
texts_in (Null ∷ values) = texts_in values
texts_in (Int n ∷ values) = texts_in values
texts_in (Str text ∷ values) = texts_in values + 1
texts_in (Binary ∷ values) = texts_in values

abbrev pub texts_of : List ToldRecord → ℕ
texts_of [] = 0
texts_of (r ∷ rs) = texts_in r.values + texts_of rs

-- how many cells of rows name a place, which are numbered from 1 on
abbrev pub cells_naming : Rows → ℕ → ℕ
cells_naming rows number = count_by (λ n. n == number) (numbers_of_rows (cells_of rows))

-- each place counts the cells of these rows that name it, beside so many others
pub record CountsCells (others : ℕ → ℕ) (places : List Place) (rows : Rows) : Type 0 where
  pub counts : (number : ℕ) → 0 < number → count_at places number ≡ cells_naming rows number + others number
  pub from_one : cells_naming rows 0 + others 0 ≡ 0

-- RECORDS APPLIED

-- What applying records to rows leaves: rows with the values that carrying out the records gives, a pool that counts
-- their cells, and the texts of other cells as they were
pub record AreApplied (streams : Streams) (change : TableChange) (others : ℕ → ℕ) (before : RowsInHand)
    (valued : ToldRows) (records : List ToldRecord) (after : RowsInHand) : Type 0 where
  pub rows : HaveValuesOf streams change after.pool.places after.rows (carried_out change.columns valued records)
  pub counted : CountsCells others after.pool.places after.rows
  pub kept : (number : ℕ) → 0 < others number → text_at after.pool.places number ≡ text_at before.pool.places number
  pub longer : length after.pool.places ≤ length before.pool.places + texts_of records

-- records that say the same as records of values are applied where these can be carried out, the pool counts its cells
-- and has room for the texts; and the rows that are left have the values that carrying out gives
abbrev pub RecordsAreApplied : Type 0
RecordsAreApplied = (streams : Streams) (change : TableChange) (others : ℕ → ℕ) (before : RowsInHand)
    (valued : ToldRows) (records : List ToldRecord) (stored : List Record) (table number : ℕ)
    → SaySame change.by records stored → AllByRecursion (IsInTransform change) records
    → list_any is_key_of_streams change.columns ≡ false
    → HaveValuesOf streams change before.pool.places before.rows valued
    → CanFollowInTurn change.columns valued records → CountsCells others before.pool.places before.rows
    → length before.pool.places + texts_of records ≤ 16777215
    → (after : RowsInHand) × (in_turn_from table (record_applied change) number before stored ≡ Ok after)
    × AreApplied streams change others before valued records after
