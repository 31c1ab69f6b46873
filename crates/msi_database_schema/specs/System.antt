-- The tables that describe tables (MSI SDK, "System tables").
use Rattle.std.specs.Prelude.{ℕ, Bool, true, false, List, [], ◌∷◌, ◌++◌, map, Some, None, codes, ◌||◌, bytes_eq, ℤ, pos}
use Rattle.std.specs.Prelude.{negsuc}
use Rattle.msi_categories.specs.declared.category.Category.{Category}
use Rattle.msi_categories.specs.Categories.{category_name, all_categories}
use Rattle.msi_table_values.specs.declared.column.ColumnType.{ColumnType}
use Rattle.msi_table_values.specs.declared.column.ColumnType.TheVariants.{Int16, Int32, Str}
use Rattle.msi_table_values.specs.Columns.{ColumnDef}
use Rattle.msi_categories.specs.declared.category.Category.TheVariants as category

abbrev pub tables_name : List ℕ
tables_name = codes "_Tables"

abbrev pub columns_name : List ℕ
columns_name = codes "_Columns"

abbrev pub validation_name : List ℕ
validation_name = codes "_Validation"

-- the two tables that are always there
abbrev pub is_schema_table : List ℕ → Bool
is_schema_table name = bytes_eq name tables_name || bytes_eq name columns_name

abbrev pub is_system_table : List ℕ → Bool
is_system_table name = is_schema_table name || bytes_eq name validation_name

-- columns as a builder makes them
abbrev pub plain_column : List ℕ → ColumnType → ColumnDef
plain_column name coltype = record {
  name = name;
  coltype = coltype;
  is_localizable = false;
  is_nullable = false;
  is_primary_key = false;
  value_range = None;
  foreign_key = None;
  category = None;
  enum_values = [];
}

abbrev pub key : ColumnDef → ColumnDef
key c = record c { is_primary_key = true }

abbrev pub nullable : ColumnDef → ColumnDef
nullable c = record c { is_nullable = true }

abbrev pub of_category : Category → ColumnDef → ColumnDef
of_category category c = record c { category = Some category }

abbrev pub in_range : ℤ → ℤ → ColumnDef → ColumnDef
in_range low high c = record c { value_range = Some (low, high) }

abbrev pub one_of : List (List ℕ) → ColumnDef → ColumnDef
one_of values c = record c { enum_values = values }

abbrev pub tables_columns : List ColumnDef
tables_columns = key (plain_column (codes "Name") (Str 64)) ∷ []

abbrev pub columns_columns : List ColumnDef
columns_columns = key (plain_column (codes "Table") (Str 64)) ∷ key (plain_column (codes "Number") Int16)
    ∷ plain_column (codes "Name") (Str 64) ∷ plain_column (codes "Type") Int16 ∷ []

abbrev pub naming_columns : List ColumnDef
naming_columns = key (of_category category.Identifier (plain_column (codes "Table") (Str 32)))
    ∷ key (of_category category.Identifier (plain_column (codes "Column") (Str 32)))
    ∷ one_of (codes "Y" ∷ codes "N" ∷ []) (plain_column (codes "Nullable") (Str 4)) ∷ []

abbrev pub referring_columns : List ColumnDef
referring_columns = nullable (in_range (negsuc 2147483646) (pos 2147483647) (plain_column (codes "MinValue") Int32))
    ∷ nullable (in_range (negsuc 2147483646) (pos 2147483647) (plain_column (codes "MaxValue") Int32))
    ∷ nullable (of_category category.Identifier (plain_column (codes "KeyTable") (Str 255)))
    ∷ nullable (in_range (pos 1) (pos 32) (plain_column (codes "KeyColumn") Int16)) ∷ []

abbrev pub describing_columns : List ColumnDef
describing_columns = nullable (one_of (map category_name all_categories) (plain_column (codes "Category") (Str 32)))
    ∷ nullable (of_category category.Text (plain_column (codes "Set") (Str 255)))
    ∷ nullable (of_category category.Text (plain_column (codes "Description") (Str 255))) ∷ []

abbrev pub validation_columns : List ColumnDef
validation_columns = naming_columns ++ referring_columns ++ describing_columns
