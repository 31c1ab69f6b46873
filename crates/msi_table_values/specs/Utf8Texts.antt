-- Values and columns whose texts are UTF-8, as every `Text` is.
use Rattle.std.specs.Prelude.{ℕ, ℤ, ⊤, List, Option, Some, None, IsUtf8}
use Rattle.std.specs.List.{AllByRecursion}
use Rattle.msi_table_values.specs.declared.value.Value.{Value}
use Rattle.msi_table_values.specs.declared.value.Value.TheVariants.{Str}
use Rattle.msi_table_values.specs.Columns.{ColumnDef}

-- a value's text, if it is one
abbrev pub IsUtf8Value : Value → Type 0
IsUtf8Value (Str text) = IsUtf8 text
IsUtf8Value _ = ⊤

abbrev pub AreUtf8Values : List Value → Type 0
AreUtf8Values values = AllByRecursion IsUtf8Value values

abbrev pub AreUtf8Texts : List (List ℕ) → Type 0
AreUtf8Texts texts = AllByRecursion IsUtf8 texts

-- the name of the table that a foreign key is of
abbrev pub IsUtf8Key : Option (List ℕ × ℤ) → Type 0
IsUtf8Key None = ⊤
IsUtf8Key (Some key) = IsUtf8 key.0

-- a column's name, that of the table that it refers to, and the texts that it takes
abbrev pub IsUtf8Column : ColumnDef → Type 0
IsUtf8Column column = IsUtf8 column.name × IsUtf8Key column.foreign_key × AreUtf8Texts column.enum_values

abbrev pub AreUtf8Columns : List ColumnDef → Type 0
AreUtf8Columns columns = AllByRecursion IsUtf8Column columns
