-- The archive that a text means, computed.
use Rattle.std.specs.Prelude.{ℕ, List, [], ◌∷◌, Option, Some, None}
use Rattle.std.specs.Str.Lines.{lines}
use Rattle.msi_table_values.specs.Numerals.{u16_in}
use Rattle.msi_base.specs.Results.{◌>>=◌}
use Rattle.msi_table_values.specs.declared.value.Value.{Value}
use Rattle.msi_exchange.specs.Archives.{ArchiveColumnDef, ArchiveDef, KeysDef}
use Rattle.msi_exchange.specs.Fields.{fields, header_fields, text_in, value_in}
use Rattle.msi_exchange.specs.Lists.{each, each_pair}
use Rattle.msi_exchange.specs.TypeFields.{type_in}

unfoldable pub column_in : List ℕ → List ℕ → Option ArchiveColumnDef
column_in name type = do
  name ← text_in name
  type ← type_in type
  Some (record { name = name; field_type = type })

unfoldable pub columns_in : List ℕ → List ℕ → Option (List ArchiveColumnDef)
columns_in names types = each_pair column_in (header_fields names) (header_fields types)

unfoldable pub keys_with : Option ℕ → List ℕ → List (List ℕ) → Option KeysDef
keys_with page table keys = do
  table ← text_in table
  keys ← each text_in keys
  Some (record { page = page; table = table; keys = keys })

abbrev pub keys_behind : Option ℕ → List ℕ → List (List ℕ) → Option KeysDef
keys_behind (Some page) first (table ∷ keys) = keys_with (Some page) table keys
keys_behind (Some page) first [] = None
keys_behind None first others = keys_with None first others

abbrev pub keys_in : List (List ℕ) → Option KeysDef
keys_in [] = None
keys_in (first ∷ others) = keys_behind (u16_in first) first others

unfoldable pub cell_in : ArchiveColumnDef → List ℕ → Option Value
cell_in column field = value_in column.field_type.coltype field

unfoldable pub row_in : List ArchiveColumnDef → List ℕ → Option (List Value)
row_in columns line = each_pair cell_in columns (fields line)

unfoldable pub archive_of : List ℕ → List ℕ → List ℕ → List (List ℕ) → Option ArchiveDef
archive_of names types keys others = do
  columns ← columns_in names types
  head ← keys_in (fields keys)
  rows ← each (row_in columns) others
  Some (record { head = head; columns = columns; rows = rows })

abbrev pub archive_of_lines : List (List ℕ) → Option ArchiveDef
archive_of_lines (names ∷ types ∷ keys ∷ others) = archive_of names types keys others
archive_of_lines _ = None

abbrev pub archive_in : List ℕ → Option ArchiveDef
archive_in text = archive_of_lines (lines text)
