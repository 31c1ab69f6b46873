-- Text archives as values: a table with its code page, its columns, its keys and its rows.
use Rattle.std.specs.Prelude.{ℕ, Bool, List, Option}
use Rattle.msi_table_values.specs.declared.column.ColumnType.{ColumnType}
use Rattle.msi_table_values.specs.declared.value.Value.{Value}

-- what a field of the second line says of a column
pub record TypeDef : Type 0 where
  pub coltype : ColumnType
  pub is_localizable : Bool
  pub is_nullable : Bool

pub record ArchiveColumnDef : Type 0 where
  pub name : List ℕ
  pub field_type : TypeDef

-- what the third line says
pub record KeysDef : Type 0 where
  pub page : Option ℕ
  pub table : List ℕ
  pub keys : List (List ℕ)

-- The value of a column of type Binary is the name of the file with the stream's bytes, as a text
pub record ArchiveDef : Type 0 where
  pub head : KeysDef
  pub columns : List ArchiveColumnDef
  pub rows : List (List Value)
