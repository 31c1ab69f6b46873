-- Where a text, or the text that would be written of an archive, breaks a rule first.
use Rattle.std.specs.Prelude.{ℕ, ◌+◌, ◌==◌, not, List, [], ◌∷◌, length, Option, Some, None, option_and_then, is_some}
use Rattle.std.specs.Prelude.{if◌then◌else◌}
use Rattle.std.specs.Option.{option_or}
use Rattle.std.specs.Str.Lines.{lines}
use Rattle.msi_table_values.specs.Numerals.{u16_in}
use Rattle.msi_table_values.specs.declared.value.Value.{Value}
use Rattle.msi_exchange.specs.declared.errors.Place.{Place}
use Rattle.msi_exchange.specs.Archives.{ArchiveColumnDef, ArchiveDef, KeysDef}
use Rattle.msi_exchange.specs.Fields.{fields, header_fields, text_in}
use Rattle.msi_exchange.specs.Places.{at, first_wrong, first_wrong_pair, uneven, unless, unless_read}
use Rattle.msi_exchange.specs.Reading.{cell_in, columns_in}
use Rattle.msi_exchange.specs.TypeFields.{type_in}
use Rattle.msi_exchange.specs.Writing.{has_field, has_table_field, has_type_field, has_value_field}

-- ---- of a text

-- a column's name, and the type below it
abbrev pub column_wrong : ℕ → List ℕ → List ℕ → Option Place
column_wrong n name type = option_or (unless_read (text_in name) (at 1 n)) (unless_read (type_in type) (at 2 n))

-- there is a type for each name; then column by column
abbrev pub columns_wrong : List (List ℕ) → List (List ℕ) → Option Place
columns_wrong names types =
    option_or (uneven 2 (length names) (length types)) (first_wrong_pair column_wrong 1 names types)

-- a name in the third line
abbrev pub name_wrong : ℕ → List ℕ → Option Place
name_wrong n field = unless_read (text_in field) (at 3 n)

-- behind a page, if there is one, the table's name and those of the keys
abbrev pub names_wrong : Option ℕ → List ℕ → List (List ℕ) → Option Place
names_wrong None first others = first_wrong name_wrong 1 (first ∷ others)
names_wrong (Some page) first [] = Some (at 3 2)
names_wrong (Some page) first (table ∷ keys) = first_wrong name_wrong 2 (table ∷ keys)

abbrev pub keys_wrong : List (List ℕ) → Option Place
keys_wrong [] = Some (at 3 1)
keys_wrong (first ∷ others) = names_wrong (u16_in first) first others

-- a row has a field for each column, which is a value of its type
abbrev pub cell_wrong : ℕ → ℕ → ArchiveColumnDef → List ℕ → Option Place
cell_wrong line n column field = unless_read (cell_in column field) (at line n)

abbrev pub cells_wrong : List ArchiveColumnDef → ℕ → List (List ℕ) → Option Place
cells_wrong columns line cells =
    option_or (uneven line (length columns) (length cells)) (first_wrong_pair (cell_wrong line) 1 columns cells)

abbrev pub row_wrong : List ArchiveColumnDef → ℕ → List ℕ → Option Place
row_wrong columns line row = cells_wrong columns line (fields row)

-- the columns come first, then the third line, then the rows
abbrev pub archive_wrong : List ℕ → List ℕ → List ℕ → List (List ℕ) → Option Place
archive_wrong names types keys others = option_or (columns_wrong (header_fields names) (header_fields types))
    (option_or (keys_wrong (fields keys))
    (option_and_then (λ columns. first_wrong (row_wrong columns) 4 others) (columns_in names types)))

-- a text of fewer than three lines ends too early
abbrev pub lines_wrong : List (List ℕ) → Option Place
lines_wrong (names ∷ types ∷ keys ∷ others) = archive_wrong names types keys others
lines_wrong few = Some (at (length few + 1) 1)

abbrev pub text_wrong : List ℕ → Option Place
text_wrong text = lines_wrong (lines text)

-- ---- of an archive

abbrev pub column_unwritable : ℕ → ArchiveColumnDef → Option Place
column_unwritable n column =
    option_or (unless (has_field column.name) (at 1 n)) (unless (has_type_field column.field_type) (at 2 n))

abbrev pub key_unwritable : ℕ → List ℕ → Option Place
key_unwritable n key = unless (has_field key) (at 3 n)

-- the field of the table's name
abbrev pub table_number : Option ℕ → ℕ
table_number page = if is_some page then 2 else 1

abbrev pub keys_unwritable : KeysDef → Option Place
keys_unwritable head = option_or (unless (has_table_field head.page head.table) (at 3 (table_number head.page)))
    (first_wrong key_unwritable (table_number head.page + 1) head.keys)

abbrev pub value_unwritable : ℕ → ℕ → ArchiveColumnDef → Value → Option Place
value_unwritable line n column value = unless (has_value_field column.field_type.coltype value) (at line n)

-- a row has a value for each column, and there is a column
abbrev pub row_unwritable : List ArchiveColumnDef → ℕ → List Value → Option Place
row_unwritable columns line row = option_or (uneven line (length columns) (length row))
    (option_or (unless (not (length columns == 0)) (at line 1))
    (first_wrong_pair (value_unwritable line) 1 columns row))

abbrev pub archive_unwritable : ArchiveDef → Option Place
archive_unwritable archive = option_or (first_wrong column_unwritable 1 archive.columns)
    (option_or (keys_unwritable archive.head) (first_wrong (row_unwritable archive.columns) 4 archive.rows))
