-- What is written reads back.
use Rattle.std.specs.Prelude.{◌≡◌, ℕ, Bool, true, false, ◌&&◌, not, ◌==◌, List, [], ◌∷◌, ◌++◌, length, map}
use Rattle.std.specs.Prelude.{bytes_eq, slice_get, Option, Some, None, IsSomeAnd, option_and_then}
use Rattle.std.specs.List.{flat_map, list_all, list_any}
use Rattle.csv.specs.Reading.{default_config, records, records_from, strip_bom}
use Rattle.csv.specs.Writing.{default_writer, read_back, row_text}
use Rattle.csv.specs.declared.parser.State.TheVariants as state
use Rattle.json.specs.Json.{document}
use Rattle.json.specs.Print.{print}
use Rattle.json.specs.Tree.{json_tokens}
use Rattle.serde_json.specs.Data as parsed
use Rattle.serde_json.specs.Find.{get}
use Rattle.serde_json.specs.Read.{of_json, read}
use Rattle.msi_base.specs.Lists.{has_pair}
use Rattle.msi_table_values.specs.declared.column.ColumnType.{ColumnType}
use Rattle.msi_table_values.specs.declared.column.ColumnType.TheVariants as coltype
use Rattle.msi_table_values.specs.declared.value.Value.{Value}
use Rattle.msi_table_values.specs.declared.value.Value.TheVariants as value
use Rattle.msi_exchange.specs.CsvRows.{csv_line, field_value, value_field}
use Rattle.msi_exchange.specs.JsonRows.{has_32_bits, object_json, row_in, row_json, value_in, value_json}

-- a number in a value has 32 bits
abbrev pub is_small : Value → Bool
is_small (value.Int n) = has_32_bits n
is_small _ = true

-- the printed JSON of a row is read as the same JSON
abbrev pub RowsArePrinted : Type 0
RowsArePrinted = (row : List Value) → list_all is_small row ≡ true
    → document (print (json_tokens (row_json row))) ≡ Some (row_json row)

abbrev pub ObjectsArePrinted : Type 0
ObjectsArePrinted = (names : List (List ℕ)) (row : List Value) → list_all is_small row ≡ true
    → document (print (json_tokens (object_json names row))) ≡ Some (object_json names row)

-- the JSON of a value stands for that value
abbrev pub JsonStandsForValues : Type 0
JsonStandsForValues = (v : Value) → is_small v ≡ true → option_and_then value_in (of_json (value_json v)) ≡ Some v

-- the printed JSON of a row is read as that row
abbrev pub PrintedRowsReadBack : Type 0
PrintedRowsReadBack = (row : List Value) → list_all is_small row ≡ true
    → option_and_then row_in (read (print (json_tokens (row_json row)))) ≡ Some row

-- lines of CSV are read as the fields of their rows; a row of no value is a line of one empty field
abbrev pub LinesReadBack : Type 0
LinesReadBack = (rows : List (List Value))
    → records_from default_config (length rows) state.StartRecord (flat_map (csv_line default_writer) rows)
    ≡ map (λ row. read_back (map value_field row)) rows

abbrev pub is_number_type : ColumnType → Bool
is_number_type coltype.Int16 = true
is_number_type coltype.Int32 = true
is_number_type _ = false

-- the value is of a column's type, and not the empty text
abbrev pub has_field : ColumnType → Value → Bool
has_field type value.Null = true
has_field type (value.Int n) = is_number_type type && has_32_bits n
has_field (coltype.Str width) (value.Str text) = not (length text == 0)
has_field coltype.Binary value.Binary = true
has_field _ _ = false

-- the field of a value stands for that value in a column of its type
abbrev pub FieldsStandForValues : Type 0
FieldsStandForValues = (type : ColumnType) (v : Value) → has_field type v ≡ true → field_value type (value_field v) ≡ v

-- the value under a name of an object that was read
abbrev pub value_under : List ℕ → parsed.Data → Option Value
value_under name whole = option_and_then value_in (get name whole)

-- an object has the values of a row under the names of their columns, and no other members
pub record HasRow (names : List (List ℕ)) (row : List Value) (whole : parsed.Data) : Type 0 where
  pub values : (i : ℕ) (name : List ℕ) → slice_get names i ≡ Some name → value_under name whole ≡ slice_get row i
  pub others : (name : List ℕ) → list_any (bytes_eq name) names ≡ false → get name whole ≡ None

-- the printed object of a row is read as an object that has the row, if no two columns share a name
abbrev pub PrintedObjectsReadBack : Type 0
PrintedObjectsReadBack = (names : List (List ℕ)) (row : List Value)
    → list_all is_small row ≡ true → has_pair bytes_eq names ≡ false
    → IsSomeAnd (read (print (json_tokens (object_json names row)))) (HasRow names row)

-- each value is of its column's type, and not the empty text
abbrev pub has_fields : List ColumnType → List Value → Bool
has_fields [] [] = true
has_fields [] (v ∷ row) = false
has_fields (type ∷ types) [] = false
has_fields (type ∷ types) (v ∷ row) = has_field type v && has_fields types row

-- what the fields of a line stand for, column by column
abbrev pub line_values : List ColumnType → List (List ℕ) → List Value
line_values [] fields = []
line_values (type ∷ types) [] = []
line_values (type ∷ types) (field ∷ fields) = field_value type field ∷ line_values types fields

-- a table as CSV: a line with the names of its columns, and a line for each row
abbrev pub table_text : List (List ℕ) → List (List Value) → List ℕ
table_text names rows = row_text default_writer names ++ flat_map (csv_line default_writer) rows

-- the first line has these names, and the fields of the others stand for these rows
abbrev pub HasTable : List ColumnType → List (List ℕ) → List (List Value) → List (List (List ℕ)) → Type 0
HasTable types names rows [] = ⊥
HasTable types names rows (first ∷ lines) = (first ≡ names) × (map (line_values types) lines ≡ rows)

-- a table as CSV, read to its end without a byte order mark, has the names and the rows
abbrev pub TablesReadBack : Type 0
TablesReadBack = (name : List ℕ) (names : List (List ℕ)) (types : List ColumnType) (rows : List (List Value))
    → strip_bom name ≡ name → list_all (has_fields types) rows ≡ true
    → HasTable types (name ∷ names) rows (records default_config (strip_bom (table_text (name ∷ names) rows)))

-- the value of a field that was read as a text, once the type of its column is known
abbrev pub value_later : ColumnType → Value → Value
value_later type value.Null = value.Null
value_later type (value.Int n) = value.Int n
value_later type (value.Str text) = field_value type text
value_later type value.Binary = value.Binary

-- it is the value that the field stands for in that column
abbrev pub TypesMayComeLater : Type 0
TypesMayComeLater = (type : ColumnType) (width : ℕ) (field : List ℕ)
    → value_later type (field_value (coltype.Str width) field) ≡ field_value type field
