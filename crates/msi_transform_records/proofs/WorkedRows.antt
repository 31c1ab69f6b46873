-- Worked examples of records, by computation.
use Rattle.std.specs.Prelude.{◌≡◌, ℕ, Bool, true, false, List, [], ◌∷◌, flat_map, pos, neg_ℤ, Some, None, refl, codes}
use Rattle.msi_base.specs.declared.codepage.CodePage.TheVariants as page
use Rattle.msi_pool.specs.Pool.{Pool, Place}
use Rattle.msi_table_values.specs.declared.column.ColumnType.{ColumnType}
use Rattle.msi_table_values.specs.declared.column.ColumnType.TheVariants as coltype
use Rattle.msi_table_cells.specs.declared.cell.ValueRef.TheVariants as cell
use Rattle.msi_transform_records.specs.declared.action.Action.TheVariants as action
use Rattle.msi_transform_records.specs.declared.records.Record.{Record}
use Rattle.msi_transform_records.specs.declared.shape.Shape.{Shape}
use Rattle.msi_transform_records.specs.Cells.{cell_at}
use Rattle.msi_transform_records.specs.RecordCells.{added_cells, changes_of_record, key_of_record}
use Rattle.msi_transform_records.specs.Records.{head_at, leading, record_at, record_bytes, record_with, records_in}

abbrev of_key : ColumnType → Shape
of_key type = record { coltype = type; is_key = true }

abbrev beside : ColumnType → Shape
beside type = record { coltype = type; is_key = false }

abbrev place : List ℕ → ℕ → Place
place text count = record { text = text; count = count }

abbrev pool_with : Bool → List Place → Pool
pool_with long places = record { page = page.Utf8; long = long; places = places }

-- ---- a key of texts, a text, a number of 2 bytes and one of 4

abbrev columns : List Shape
columns = of_key (coltype.Str 72) ∷ beside (coltype.Str 20) ∷ beside coltype.Int16 ∷ beside coltype.Int32 ∷ []

-- 1 is b, 2 is a, 3 is z, 4 is d
abbrev pool : Pool
pool = pool_with false (place (codes "b") 1 ∷ place (codes "a") 1 ∷ place (codes "z") 1 ∷ place (codes "d") 1 ∷ [])

abbrev removes_b : Record
removes_b = record_with action.Remove (cell.Str 1 ∷ [])

abbrev changes_a : Record
changes_a = record_with (action.Change 10) (cell.Str 2 ∷ cell.Str 3 ∷ cell.Int (neg_ℤ (pos 1)) ∷ [])

abbrev adds_d : Record
adds_d = record_with (action.Add 4) (cell.Str 4 ∷ cell.Null ∷ cell.Int (pos 7) ∷ cell.Int (pos 5) ∷ [])

abbrev three : List Record
three = removes_b ∷ changes_a ∷ adds_d ∷ []

abbrev bytes_of_three : List ℕ
bytes_of_three = 0 ∷ 0 ∷ 1 ∷ 0
    ∷ 0x0A ∷ 0 ∷ 2 ∷ 0 ∷ 3 ∷ 0 ∷ 0xFF ∷ 0xFF ∷ 0xFF ∷ 0x7F
    ∷ 1 ∷ 4 ∷ 4 ∷ 0 ∷ 0 ∷ 0 ∷ 7 ∷ 0x80 ∷ 5 ∷ 0 ∷ 0 ∷ 0x80 ∷ []

three_are_read : records_in columns pool bytes_of_three ≡ Some three
unfolding record_at head_at cell_at
three_are_read = refl

three_are_spelled : flat_map (record_bytes false columns) three ≡ bytes_of_three
three_are_spelled = refl

key_of_change : key_of_record columns changes_a ≡ cell.Str 2 ∷ []
key_of_change = refl

changes_of_change : changes_of_record columns changes_a ≡ (1, cell.Str 3) ∷ (3, cell.Int (neg_ℤ (pos 1))) ∷ []
changes_of_change = refl

key_of_add : key_of_record columns adds_d ≡ cell.Str 4 ∷ []
key_of_add = refl

-- an added row without the last two columns
short_row : added_cells columns (record_with (action.Add 2) (cell.Str 4 ∷ cell.Str 3 ∷ [])) ≡ cell.Str 4 ∷ cell.Str 3 ∷ cell.Null ∷ cell.Null ∷ []
short_row = refl

-- references of 3 bytes
long_reference : records_in columns (pool_with true (place (codes "a") 1 ∷ place (codes "z") 1 ∷ [])) (2 ∷ 0 ∷ 1 ∷ 0 ∷ 0 ∷ 2 ∷ 0 ∷ 0 ∷ [])
    ≡ Some (record_with (action.Change 2) (cell.Str 1 ∷ cell.Str 2 ∷ []) ∷ [])
unfolding record_at head_at cell_at
long_reference = refl

-- ---- a key of a number and a text, and a text

abbrev two_keys : List Shape
two_keys = of_key coltype.Int16 ∷ of_key (coltype.Str 72) ∷ beside (coltype.Str 9) ∷ []

abbrev pool_of_two : Pool
pool_of_two = pool_with false (place (codes "u") 3 ∷ place (codes "new") 1 ∷ place (codes "w") 1 ∷ [])

two_keys_are_read : records_in two_keys pool_of_two (
    0 ∷ 0 ∷ 1 ∷ 0x80 ∷ 1 ∷ 0
    ∷ 4 ∷ 0 ∷ 2 ∷ 0x80 ∷ 1 ∷ 0 ∷ 2 ∷ 0
    ∷ 1 ∷ 3 ∷ 3 ∷ 0x80 ∷ 1 ∷ 0 ∷ 3 ∷ 0 ∷ [])
    ≡ Some (record_with action.Remove (cell.Int (pos 1) ∷ cell.Str 1 ∷ [])
    ∷ record_with (action.Change 4) (cell.Int (pos 2) ∷ cell.Str 1 ∷ cell.Str 2 ∷ [])
    ∷ record_with (action.Add 3) (cell.Int (pos 3) ∷ cell.Str 1 ∷ cell.Str 3 ∷ []) ∷ [])
unfolding record_at head_at cell_at
two_keys_are_read = refl

-- the bit of the second column, which is of the key, means nothing
bit_of_key : changes_of_record two_keys (record_with (action.Change 6) (cell.Int (pos 2) ∷ cell.Str 1 ∷ cell.Str 2 ∷ [])) ≡ (2, cell.Str 2) ∷ []
bit_of_key = refl

-- ---- what is none

-- the second record has a text that is past the pool: the first stands in front of it
text_past_pool : leading columns pool (0 ∷ 0 ∷ 1 ∷ 0 ∷ 0 ∷ 0 ∷ 5 ∷ 0 ∷ []) ≡ (removes_b ∷ [], 0 ∷ 0 ∷ 5 ∷ 0 ∷ [])
unfolding record_at head_at cell_at
text_past_pool = refl

-- a place that no cell names, a mask that says nothing, a bit past the columns, a cell too many, a key left out, a cut cell
free_place : records_in columns (pool_with false (place (codes "b") 0 ∷ [])) (0 ∷ 0 ∷ 1 ∷ 0 ∷ []) ≡ None
unfolding record_at head_at cell_at
free_place = refl

odd_mask : records_in columns pool (0x03 ∷ 0 ∷ 1 ∷ 0 ∷ []) ≡ None
unfolding record_at head_at cell_at
odd_mask = refl

bit_past_columns : records_in columns pool (0x10 ∷ 0 ∷ 1 ∷ 0 ∷ []) ≡ None
unfolding record_at head_at cell_at
bit_past_columns = refl

column_past_columns : records_in columns pool (1 ∷ 5 ∷ 4 ∷ 0 ∷ 0 ∷ 0 ∷ 7 ∷ 0x80 ∷ 5 ∷ 0 ∷ 0 ∷ 0x80 ∷ 0 ∷ 0 ∷ []) ≡ None
unfolding record_at head_at cell_at
column_past_columns = refl

key_left_out : records_in two_keys pool_of_two (1 ∷ 1 ∷ 3 ∷ 0x80 ∷ []) ≡ None
unfolding record_at head_at cell_at
key_left_out = refl

cut_cell : records_in columns pool (0 ∷ 0 ∷ 1 ∷ []) ≡ None
unfolding record_at head_at cell_at
cut_cell = refl

-- ---- a column of streams: null, a stream, and nothing else

abbrev with_stream : List Shape
with_stream = of_key (coltype.Str 72) ∷ beside coltype.Binary ∷ []

streams_are_read : records_in with_stream pool (1 ∷ 2 ∷ 1 ∷ 0 ∷ 1 ∷ 0 ∷ 2 ∷ 0 ∷ 2 ∷ 0 ∷ 0 ∷ 0 ∷ [])
    ≡ Some (record_with (action.Add 2) (cell.Str 1 ∷ cell.Binary ∷ []) ∷ record_with (action.Change 2) (cell.Str 2 ∷ cell.Null ∷ []) ∷ [])
unfolding record_at head_at cell_at
streams_are_read = refl

other_stream_cell : records_in with_stream pool (1 ∷ 2 ∷ 1 ∷ 0 ∷ 2 ∷ 0 ∷ []) ≡ None
unfolding record_at head_at cell_at
other_stream_cell = refl
