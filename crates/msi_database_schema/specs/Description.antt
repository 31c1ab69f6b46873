-- The rows that describe a table: in `_Columns`, in `_Tables` and in `_Validation` (MSI SDK, "System tables").
use Rattle.std.specs.Prelude.{if◌then◌else◌, ℕ, Bool, true, nat_lt, List, [], ◌∷◌, map, Option, Some, None, option_map}
use Rattle.std.specs.Prelude.{codes, ℤ, pos}
use Rattle.std.specs.List.{enumerate_from, join_with_byte, list_all}
use Rattle.msi_categories.specs.Categories.{category_name}
use Rattle.msi_table_values.specs.declared.value.Value.{Value}
use Rattle.msi_table_values.specs.declared.value.Value.TheVariants.{Null, Int, Str}
use Rattle.msi_table_values.specs.declared.column.ColumnType.{ColumnType}
use Rattle.msi_table_values.specs.declared.column.ColumnType.TheVariants as coltype
use Rattle.msi_table_values.specs.Columns.{ColumnDef, type_bits}

-- The rows that describe a table: in `_Columns`, in `_Tables` and in `_Validation`
abbrev pub column_row : List ℕ → ℕ × ColumnDef → List Value
column_row name e = Str name ∷ Int (pos e.0) ∷ Str e.1.name ∷ Int (pos (type_bits e.1)) ∷ []

abbrev pub column_rows : List ℕ → List ColumnDef → List (List Value)
column_rows name columns = map (column_row name) (enumerate_from 1 columns)

abbrev pub int_or_null : Option ℤ → Value
int_or_null None = Null
int_or_null (Some n) = Int n

abbrev pub text_or_null : Option (List ℕ) → Value
text_or_null None = Null
text_or_null (Some text) = Str text

abbrev pub joined_values : List (List ℕ) → Option (List ℕ)
joined_values [] = None
joined_values (v ∷ vs) = Some (join_with_byte 59 (v ∷ vs))

abbrev pub validation_row : List ℕ → ColumnDef → List Value
validation_row table c = Str table ∷ Str c.name ∷ Str (if c.is_nullable then codes "Y" else codes "N")
    ∷ int_or_null (option_map (λ r. r.0) c.value_range) ∷ int_or_null (option_map (λ r. r.1) c.value_range)
    ∷ text_or_null (option_map (λ k. k.0) c.foreign_key) ∷ int_or_null (option_map (λ k. k.1) c.foreign_key)
    ∷ text_or_null (option_map category_name c.category) ∷ text_or_null (joined_values c.enum_values) ∷ Null ∷ []

abbrev pub validation_rows : List ℕ → List ColumnDef → List (List Value)
validation_rows name columns = map (validation_row name) columns

abbrev pub tables_row : List ℕ → List Value
tables_row name = Str name ∷ []

-- the bits of a type tell a length in one byte
abbrev pub is_short : ColumnType → Bool
is_short (coltype.Str n) = nat_lt n 256
is_short _ = true

abbrev pub has_short_length : ColumnDef → Bool
has_short_length c = is_short c.coltype

abbrev pub have_short_lengths : List ColumnDef → Bool
have_short_lengths columns = list_all has_short_length columns
