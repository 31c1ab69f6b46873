-- Which texts are the archives of which tables (MSI SDK, "Text Archive Files").
use Rattle.std.specs.Prelude.{◌≡◌, ℕ, ⊤, List, [], ◌∷◌, ◌++◌, Option, Some, None}
use Rattle.std.specs.List.{AllZip}
use Rattle.std.specs.Str.Lines.{lines}
use Rattle.msi_table_values.specs.Numerals.{u16_in}
use Rattle.msi_table_values.specs.declared.value.Value.{Value}
use Rattle.msi_exchange.specs.Archives.{ArchiveColumnDef, ArchiveDef, KeysDef}
use Rattle.msi_exchange.specs.Fields.{fields, header_fields, text_in, value_in}
use Rattle.msi_exchange.specs.TypeFields.{type_in}

abbrev pub MeansText : List ℕ → List ℕ → Type 0
MeansText field text = text_in field ≡ Some text

-- the names of the columns stand in the first line, and below each its type
abbrev pub MeanColumns : List (List ℕ) → List (List ℕ) → List ArchiveColumnDef → Type 0
MeanColumns [] [] [] = ⊤
MeanColumns (name ∷ names) (type ∷ types) (column ∷ columns) =
    MeansText name column.name × (type_in type ≡ Some column.field_type) × MeanColumns names types columns
MeanColumns _ _ _ = ⊥

-- the number of the page may stand in front of the table's name, which is no such number where none stands there
abbrev pub MeansPage : List (List ℕ) → List ℕ → Option ℕ → Type 0
MeansPage front table None = (front ≡ []) × (u16_in table ≡ None)
MeansPage front table (Some page) = (numeral : List ℕ) × (front ≡ numeral ∷ []) × (u16_in numeral ≡ Some page)

-- the page, the table's name, and the names of the key columns
pub record MeanKeys (line : List (List ℕ)) (head : KeysDef) : Type 0 where
  pub front : List (List ℕ)
  pub table : List ℕ
  pub keys : List (List ℕ)
  pub parts : line ≡ front ++ table ∷ keys
  pub page : MeansPage front table head.page
  pub name : MeansText table head.table
  pub named : AllZip MeansText keys head.keys

-- a row has a field for each column
abbrev pub MeanRow : List ArchiveColumnDef → List (List ℕ) → List Value → Type 0
MeanRow [] [] [] = ⊤
MeanRow (column ∷ columns) (field ∷ others) (value ∷ values) =
    (value_in column.field_type.coltype field ≡ Some value) × MeanRow columns others values
MeanRow _ _ _ = ⊥

-- A text means an archive by its lines, which line feeds end, with or without a carriage return: the names, the types,
-- the keys, and a line for each row
pub record Means (text : List ℕ) (archive : ArchiveDef) : Type 0 where
  pub names : List ℕ
  pub types : List ℕ
  pub keys : List ℕ
  pub others : List (List ℕ)
  pub parts : lines text ≡ names ∷ types ∷ keys ∷ others
  pub columns : MeanColumns (header_fields names) (header_fields types) archive.columns
  pub head : MeanKeys (fields keys) archive.head
  pub rows : AllZip (λ line row. MeanRow archive.columns (fields line) row) others archive.rows
