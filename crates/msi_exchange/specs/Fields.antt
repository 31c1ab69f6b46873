-- Fields of a text archive, and what they mean (MSI SDK, "Text Archive Files").
use Rattle.std.specs.Prelude.{ℕ, ◌==◌, ◌||◌, if◌then◌else◌, pos, neg_ℤ, ℤ, List, [], length, map}
use Rattle.std.specs.Prelude.{Option, Some, None, option_map}
use Rattle.std.specs.List.{list_any, slice_split}
use Rattle.std.specs.Str.Parse.{signed_digits_value}
use Rattle.msi_table_values.specs.Numerals.{is_number_within}
use Rattle.msi_table_values.specs.declared.column.ColumnType.{ColumnType}
use Rattle.msi_table_values.specs.declared.column.ColumnType.TheVariants as coltype
use Rattle.msi_table_values.specs.declared.value.Value.{Value}
use Rattle.msi_table_values.specs.declared.value.Value.TheVariants as value
use Rattle.msi_exchange.specs.Characters.{is_control, swapped}

-- tabs part the fields of a line
abbrev pub fields : List ℕ → List (List ℕ)
fields line = slice_split (λ b. b == 9) line

-- an empty line names no column
abbrev pub header_fields : List ℕ → List (List ℕ)
header_fields line = if length line == 0 then [] else fields line

-- A text stands in its field with its control characters replaced. No field is the empty text
abbrev pub text_in : List ℕ → Option (List ℕ)
text_in field = if (length field == 0) || list_any is_control field then None else Some (map swapped field)

-- a number of 32 bits in decimal, where a sign may stand in front
abbrev pub number_in : List ℕ → Option ℤ
number_in field = if is_number_within (neg_ℤ (pos 2147483648)) (pos 2147483647) field
    then Some (signed_digits_value 10 field) else None

abbrev pub filled_in : ColumnType → List ℕ → Option Value
filled_in coltype.Int16 field = option_map value.Int (number_in field)
filled_in coltype.Int32 field = option_map value.Int (number_in field)
filled_in (coltype.Str n) field = option_map value.Str (text_in field)
filled_in coltype.Binary field = option_map value.Str (text_in field)

-- an empty field is null
abbrev pub value_in : ColumnType → List ℕ → Option Value
value_in type field = if length field == 0 then Some value.Null else filled_in type field
