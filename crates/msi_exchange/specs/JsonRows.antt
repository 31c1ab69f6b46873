-- Rows as JSON (RFC 8259): lists of values, or objects whose members are named as columns; and what JSON stands for.
use Rattle.std.specs.Prelude.{ℕ, ℤ, pos, neg_ℤ, int_le, ◌&&◌, if◌then◌else◌, Bool, true, List, [], ◌∷◌, map}
use Rattle.std.specs.Prelude.{Option, Some, None, option_map, option_and_then}
use Rattle.std.specs.Fmt.{signed_decimal}
use Rattle.json.specs.Json as json
use Rattle.serde_json.specs.Data as parsed
use Rattle.serde_json.specs.Find.{as_i64}
use Rattle.msi_table_values.specs.Columns.{ColumnDef}
use Rattle.msi_table_values.specs.declared.value.Value.{Value}
use Rattle.msi_table_values.specs.declared.value.Value.TheVariants as value

-- a stream's bytes stand outside the table, and so it is true
abbrev pub value_json : Value → json.Json
value_json value.Null = json.null
value_json (value.Int n) = json.number (signed_decimal n)
value_json (value.Str text) = json.string text
value_json value.Binary = json.boolean true

abbrev pub items_json : List Value → json.Items
items_json [] = json.no_items
items_json (v ∷ row) = json.item (value_json v) (items_json row)

-- a row as a list
abbrev pub row_json : List Value → json.Json
row_json row = json.array (items_json row)

-- a member for each name that has a value
abbrev pub members_json : List (List ℕ) → List Value → json.Members
members_json [] row = json.no_members
members_json (name ∷ names) [] = json.no_members
members_json (name ∷ names) (v ∷ row) = json.member name (value_json v) (members_json names row)

-- a row as an object
abbrev pub object_json : List (List ℕ) → List Value → json.Json
object_json names row = json.object (members_json names row)

abbrev pub names_of : List ColumnDef → List (List ℕ)
names_of columns = map (λ c. c.name) columns

abbrev pub has_32_bits : ℤ → Bool
has_32_bits n = int_le (neg_ℤ (pos 2147483648)) n && int_le n (pos 2147483647)

abbrev pub number_value : ℤ → Option Value
number_value n = if has_32_bits n then Some (value.Int n) else None

-- the value that JSON stands for, if it stands for one
abbrev pub value_in : parsed.Data → Option Value
value_in parsed.null = Some value.Null
value_in (parsed.boolean b) = if b then Some value.Binary else None
value_in (parsed.number n) = option_and_then number_value (as_i64 n)
value_in (parsed.string text) = Some (value.Str text)
value_in (parsed.array _) = None
value_in (parsed.object _) = None

abbrev pub values_in : parsed.Items → Option (List Value)
values_in parsed.no_items = Some []
values_in (parsed.item d items) = option_and_then (λ v. option_map (λ row. v ∷ row) (values_in items)) (value_in d)

-- the row that JSON stands for, if it stands for one
abbrev pub row_in : parsed.Data → Option (List Value)
row_in parsed.null = None
row_in (parsed.boolean _) = None
row_in (parsed.number _) = None
row_in (parsed.string _) = None
row_in (parsed.array items) = values_in items
row_in (parsed.object _) = None
