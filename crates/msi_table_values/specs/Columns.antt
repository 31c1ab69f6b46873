-- Columns, and the bits of a column's type (MSI SDK, "_Columns table").
use Rattle.std.specs.Prelude.{◌≡◌, ℕ, ◌+◌, ◌/◌, ◌%◌, ◌<◌, Bool, true, false, List, [], ◌∷◌, ◌++◌, map, length, Option}
use Rattle.std.specs.Prelude.{Some, None, option_map, option_and_then, slice_get, nat_le, ◌==◌, ◌||◌, if◌then◌else◌}
use Rattle.std.specs.Prelude.{bytes_eq, ℤ, ⊤, position, codes}
use Rattle.std.specs.Fmt.{decimal}
use Rattle.std.specs.List.{list_any}
use Rattle.msi_categories.specs.declared.category.Category.{Category}
use Rattle.msi_categories.specs.declared.category.Category.TheVariants as category
use Rattle.msi_table_values.specs.declared.column.ColumnType.{ColumnType}
use Rattle.msi_table_values.specs.declared.column.ColumnType.TheVariants as coltype

-- a column, as its builder left it
pub record ColumnDef : Type 0 where
  pub name : List ℕ
  pub coltype : ColumnType
  pub is_localizable : Bool
  pub is_nullable : Bool
  pub is_primary_key : Bool
  pub value_range : Option (ℤ × ℤ)
  pub foreign_key : Option (List ℕ × ℤ)
  pub category : Option Category
  pub enum_values : List (List ℕ)

-- the greatest numbers of 16 and of 32 bits; the least that a column takes are their negatives
abbrev pub greatest_16 : ℕ
greatest_16 = 32767

abbrev pub greatest_32 : ℕ
greatest_32 = 2147483647

-- the numbers of a table's columns are stored in 16 bits
abbrev pub most_columns : ℕ
most_columns = greatest_16

-- a column as a builder begins it: nothing is set, and no end has named a type
abbrev pub begun_column : List ℕ → ColumnDef
begun_column name = record {
  name = name;
  coltype = coltype.Int16;
  is_localizable = false;
  is_nullable = false;
  is_primary_key = false;
  value_range = None;
  foreign_key = None;
  category = None;
  enum_values = [];
}

-- the texts, where there are some
abbrev pub some_texts : List (List ℕ) → Option (List (List ℕ))
some_texts texts = if length texts == 0 then None else Some texts

-- cells of such columns stand for streams, which have no order
abbrev pub is_of_category_binary : Option Category → Bool
is_of_category_binary (Some category.Binary) = true
is_of_category_binary _ = false

-- how a type prints
abbrev pub type_name : ColumnType → List ℕ
type_name coltype.Int16 = codes "SMALLINT"
type_name coltype.Int32 = codes "INTEGER"
type_name (coltype.Str n) = codes "VARCHAR(" ++ decimal n ++ codes ")"
type_name coltype.Binary = codes "BINARY"

abbrev pub types_of : List ColumnDef → List ColumnType
types_of columns = map (λ c. c.coltype) columns

-- where a name stands among columns; a repeated name means the first
abbrev pub column_index : List ℕ → List ColumnDef → Option ℕ
column_index name columns = position (λ c. bytes_eq c.name name) columns

-- the column of a name
abbrev pub column_named : List ℕ → List ColumnDef → Option ColumnDef
column_named name columns = option_and_then (slice_get columns) (column_index name columns)

abbrev pub has_column : List ℕ → List ColumnDef → Bool
has_column name columns = list_any (λ c. bytes_eq c.name name) columns

-- where the key columns stand, counted from i
abbrev pub key_places_from : ℕ → List ColumnDef → List ℕ
key_places_from i [] = []
key_places_from i (c ∷ cs) = if c.is_primary_key then i ∷ key_places_from (i + 1) cs else key_places_from (i + 1) cs

abbrev pub key_places : List ColumnDef → List ℕ
key_places columns = key_places_from 0 columns

abbrev pub bit_if : Bool → ℕ → ℕ
bit_if b n = if b then n else 0

abbrev pub kind_bits : ColumnType → ℕ
kind_bits coltype.Int16 = 0x502
kind_bits coltype.Int32 = 0x104
kind_bits (coltype.Str n) = 0xD00 + n
kind_bits coltype.Binary = 0x900

-- the bits of a column's type
abbrev pub type_bits : ColumnDef → ℕ
type_bits c = kind_bits c.coltype
    + bit_if c.is_localizable 0x200 + bit_if c.is_nullable 0x1000 + bit_if c.is_primary_key 0x2000

abbrev pub has_bit : ℕ → ℕ → Bool
has_bit bits mask = (bits / mask) % 2 == 1

-- the type that bits name, if any
abbrev pub type_of_bits : ℕ → Option ColumnType
type_of_bits bits = if (bits == 0x900) || (bits == 0x1900) then Some coltype.Binary
    else if has_bit bits 0x800 then Some (coltype.Str (bits % 256))
    else if bits % 256 == 4 then Some (if has_bit bits 0x400 then coltype.Binary else coltype.Int32)
    else if nat_le (bits % 256) 2 then Some coltype.Int16
    else None

-- what an end of a builder makes by such bits: a column is nullable by them or as the builder left it
abbrev pub with_bits : ColumnDef → ℕ → ColumnType → ColumnDef
with_bits c bits type = record c {
  coltype = type;
  is_localizable = has_bit bits 0x200;
  is_nullable = has_bit bits 0x1000 || c.is_nullable;
  is_primary_key = has_bit bits 0x2000;
}

abbrev pub column_of_bits : ColumnDef → ℕ → Option ColumnDef
column_of_bits c bits = option_map (with_bits c bits) (type_of_bits bits)

-- a text's length takes one byte of the bits
abbrev pub HasShortLength : ColumnType → Type 0
HasShortLength (coltype.Str n) = n < 256
HasShortLength _ = ⊤

-- a Binary column is neither localizable nor a key
abbrev pub IsPlainIfBinary : ColumnDef → Type 0
IsPlainIfBinary c = c.coltype ≡ coltype.Binary → (c.is_localizable ≡ false) × (c.is_primary_key ≡ false)

-- the bits of a column tell its flags and its type
abbrev pub TypeBitsComeBack : Type 0
TypeBitsComeBack = (c : ColumnDef) → HasShortLength c.coltype
    → (has_bit (type_bits c) 0x200 ≡ c.is_localizable) × (has_bit (type_bits c) 0x1000 ≡ c.is_nullable)
    × (has_bit (type_bits c) 0x2000 ≡ c.is_primary_key)
    × (IsPlainIfBinary c → type_of_bits (type_bits c) ≡ Some c.coltype)
