-- Rows as lines of CSV (RFC 4180), and what fields of CSV stand for.
use Rattle.std.specs.Prelude.{ℕ, ◌==◌, if◌then◌else◌, List, [], length, map, bytes_eq, codes}
use Rattle.std.specs.Prelude.{Option, Some, None, option_map, unwrap_or}
use Rattle.std.specs.Fmt.{signed_decimal}
use Rattle.csv.specs.Writing.{row_text}
use Rattle.csv.specs.declared.writer.WriterBuilder.{WriterBuilder}
use Rattle.msi_table_values.specs.declared.column.ColumnType.{ColumnType}
use Rattle.msi_table_values.specs.declared.column.ColumnType.TheVariants as coltype
use Rattle.msi_table_values.specs.declared.value.Value.{Value}
use Rattle.msi_table_values.specs.declared.value.Value.TheVariants as value
use Rattle.msi_exchange.specs.Fields.{number_in}

-- what stands for a stream, whose bytes stand outside the table
abbrev pub stream_mark : List ℕ
stream_mark = codes "[stream]"

-- the field of a value
abbrev pub value_field : Value → List ℕ
value_field value.Null = []
value_field (value.Int n) = signed_decimal n
value_field (value.Str text) = text
value_field value.Binary = stream_mark

-- the line of a row, as a writer is set up
abbrev pub csv_line : WriterBuilder → List Value → List ℕ
csv_line setup row = row_text setup (map value_field row)

-- what a field stands for in a column of a type, if neither null nor a text
abbrev pub plain_in : ColumnType → List ℕ → Option Value
plain_in coltype.Int16 field = option_map value.Int (number_in field)
plain_in coltype.Int32 field = option_map value.Int (number_in field)
plain_in (coltype.Str width) field = None
plain_in coltype.Binary field = if bytes_eq field stream_mark then Some value.Binary else None

-- an empty field stands for null, and one that stands for nothing else is a text
abbrev pub field_value : ColumnType → List ℕ → Value
field_value type field = if length field == 0 then value.Null else unwrap_or (plain_in type field) (value.Str field)
