-- The streams of rows: a row with cells of streams has one, whose name is the table's and the key's values.
use Rattle.std.specs.Prelude.{ℕ, Bool, true, false, List, [], ◌∷◌, ◌++◌, Option, Some, None, option_and_then, unwrap_or}
use Rattle.std.specs.Prelude.{map, slice_get, zip}
use Rattle.std.specs.Prelude.{if◌then◌else◌, Result, Ok}
use Rattle.std.specs.List.{flat_map, list_any}
use Rattle.std.specs.Fmt.{signed_decimal}
use Rattle.msi_base.specs.declared.errors.ErrorKind.{ErrorKind}
use Rattle.msi_base.specs.declared.errors.ErrorKind.TheVariants.{NotFound}
use Rattle.msi_base.specs.Refusals.{or_refused, ◌>>=◌}
use Rattle.msi_table_cells.specs.declared.cell.ValueRef.{ValueRef}
use Rattle.msi_table_cells.specs.declared.cell.ValueRef.TheVariants as cell
use Rattle.msi_table_values.specs.declared.value.Value.{Value}
use Rattle.msi_table_values.specs.declared.value.Value.TheVariants.{Null, Int, Str, Binary}
use Rattle.msi_table_values.specs.declared.column.ColumnType.{ColumnType}
use Rattle.msi_table_values.specs.declared.column.ColumnType.TheVariants as coltype
use Rattle.msi_table_values.specs.Columns.{ColumnDef, types_of}
use Rattle.msi_database_schema.specs.Keys.{is_stream_name, stream_key}
use Rattle.msi_database_changes.specs.declared.storing.Stored.{Stored}
use Rattle.msi_database_storage.specs.Streams.{stream_at}
use Rattle.msi_transform.specs.Transforms.{TransformDef}
use Rattle.msi_transform_rows.specs.declared.row.RowStream.{RowStream}
use Rattle.msi_transform_rows.specs.declared.row.RowStream.TheVariants.{AsBefore, Gone, Brought}

abbrev pub is_of_streams : ColumnType → Bool
is_of_streams coltype.Binary = true
is_of_streams coltype.Int16 = false
is_of_streams coltype.Int32 = false
is_of_streams (coltype.Str n) = false

abbrev pub has_streams : List ColumnDef → Bool
has_streams columns = list_any (λ c. is_of_streams c.coltype) columns

-- `Table.key..`: a number in decimal, and null as nothing
abbrev pub key_text : Value → List ℕ
key_text Null = []
key_text (Int n) = signed_decimal n
key_text (Str text) = text
key_text Binary = []

abbrev pub stream_text : List ℕ → List Value → List ℕ
stream_text table key = table ++ flat_map (λ v. 46 ∷ key_text v) key

-- the container's name of a row's stream; none where no stream may have it
abbrev pub name_of_text : List ℕ → Option (List ℕ)
name_of_text text = if is_stream_name text then Some (stream_key text) else None

abbrev pub row_stream : List ℕ → List Value → Option (List ℕ)
row_stream table key = name_of_text (stream_text table key)

-- the stream that the transform has for a row
abbrev pub brought : TransformDef → List ℕ → List Value → Option (List ℕ)
brought t table key = option_and_then (λ name. stream_at name t.streams) (row_stream table key)

-- What a row's cells of streams say: a stream comes where one of them isn't null
abbrev pub is_stream : ValueRef → Bool
is_stream cell.Binary = true
is_stream cell.Null = false
is_stream (cell.Int n) = false
is_stream (cell.Str number) = false

-- of one cell, where the others say so much
abbrev pub told_beside : Option RowStream → ColumnType × ValueRef → Option RowStream
told_beside others e = if is_of_streams e.0
    then Some (if is_stream e.1 then Brought else unwrap_or others Gone) else others

abbrev pub told_stream : List (ColumnType × ValueRef) → Option RowStream
told_stream [] = None
told_stream (e ∷ cells) = told_beside (told_stream cells) e

-- of the cells of a whole row, and of cells that are each behind the number of their column
abbrev pub told_by_row : List ColumnDef → List ValueRef → Option RowStream
told_by_row columns cells = told_stream (zip (types_of columns) cells)

abbrev pub type_in : List ColumnDef → ℕ → ColumnType
type_in columns i = unwrap_or (slice_get (types_of columns) i) coltype.Int16

abbrev pub told_by_changes : List ColumnDef → List (ℕ × ValueRef) → Option RowStream
told_by_changes columns told = told_stream (map (λ e. (type_in columns e.0, e.1)) told)

-- the stream of a row becomes these bytes, or goes
abbrev pub stored_as : Option (List ℕ) → Option (List ℕ) → List Stored
stored_as None bytes = []
stored_as (Some name) bytes = record { name = name; bytes = bytes } ∷ []

abbrev pub row_stream_gone : List ℕ → List Value → List Stored
row_stream_gone table key = stored_as (row_stream table key) None

-- what becomes of the stream of a row
abbrev pub row_stream_stored : TransformDef → List ℕ → List Value → RowStream → Result (List Stored) ErrorKind
row_stream_stored t table key AsBefore = Ok []
row_stream_stored t table key Gone = Ok (row_stream_gone table key)
row_stream_stored t table key Brought = or_refused NotFound (brought t table key)
    >>= λ bytes. Ok (stored_as (row_stream table key) (Some bytes))
