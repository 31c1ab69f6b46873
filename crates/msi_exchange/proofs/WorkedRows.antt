-- Rows worked by hand.
use Rattle.std.proofs.Common.{◌≡◌, [], ◌∷◌, pos, refl, None, false}
use Rattle.std.specs.Prelude.{codes}
use Rattle.csv.specs.Writing.{default_writer, escaped, fields_text, is_blank}
use Rattle.json.specs.Print.{escape_byte, print, print_from}
use Rattle.json.specs.Tree.{json_tokens}
use Rattle.serde_json.specs.Data as parsed
use Rattle.msi_table_values.specs.declared.column.ColumnType.TheVariants as coltype
use Rattle.msi_table_values.specs.declared.value.Value.TheVariants as value
use Rattle.msi_exchange.specs.CsvRows.{csv_line, field_value}
use Rattle.msi_exchange.specs.JsonRows.{object_json, row_json, value_in}

-- a text with a comma stands between quotes, null is empty, and a stream is marked
csv_row : csv_line default_writer (value.Str (codes "a,b") ∷ value.Null ∷ value.Binary ∷ []) ≡ codes "\"a,b\",,[stream]\n"
unfolding escaped fields_text is_blank
csv_row = refl

json_row : print (json_tokens (row_json (value.Str (codes "a\"b") ∷ value.Null ∷ value.Binary ∷ []))) ≡ codes "[\"a\\\"b\",null,true]"
unfolding escape_byte print_from
json_row = refl

-- a column without a value has no member
json_object : print (json_tokens (object_json (codes "Key" ∷ codes "Data" ∷ codes "More" ∷ []) (value.Str (codes "1") ∷ value.Binary ∷ []))) ≡ codes "{\"Key\":\"1\",\"Data\":true}"
unfolding escape_byte print_from
json_object = refl

-- a sign and zeros may stand in front of a number
number_field : field_value coltype.Int16 (codes "+007") ≡ value.Int (pos 7)
number_field = refl

text_in_numbers : field_value coltype.Int32 (codes "seven") ≡ value.Str (codes "seven")
text_in_numbers = refl

stream_field : field_value coltype.Binary (codes "[stream]") ≡ value.Binary
stream_field = refl

-- a number of more than 32 bits, and `false`, stand for nothing
wide_number : value_in (parsed.number (parsed.unsigned 2147483648)) ≡ None
wide_number = refl

false_item : value_in (parsed.boolean false) ≡ None
false_item = refl
