-- The tables and columns of the new package, once the records that a transform that is made has of `_Tables` and
-- `_Columns` are applied to the old one.
use Rattle.std.specs.Prelude.{◌≡◌, ℕ, ◌+◌, ◌*◌, ◌≤◌, pos, true, ⊤, List, [], ◌∷◌, map, drop, take, length}
use Rattle.std.specs.Prelude.{false, Some, Ok, bytes_eq}
use Rattle.std.specs.List.{AllByRecursion, flat_map}
use Rattle.msi_base.specs.Lists.{has_pair}
use Rattle.msi_table_values.specs.declared.value.Value.{Value}
use Rattle.msi_table_values.specs.declared.value.Value.TheVariants.{Int, Str}
use Rattle.msi_table_values.specs.Columns.{ColumnDef}
use Rattle.msi_database_schema.specs.System.{columns_columns, columns_name, tables_columns, tables_name}
use Rattle.msi_database_changes.specs.Database.{has_table}
use Rattle.msi_transform_records.specs.declared.shape.Shape.{Shape}
use Rattle.msi_transform.specs.Transforms.{TransformDef}
use Rattle.msi_transform.specs.declared.conditions.ErrorConditions.{ErrorConditions}
use Rattle.msi_transform_schema.specs.SchemaApplying.{have_own_keys, schema_begun, schema_changed, system_rows}
use Rattle.msi_transform_schema.specs.SchemaChanges.{SchemaInHand, column_told, is_unlisted, table_in_hand}
use Rattle.msi_transform_applying.specs.Applying.{change_with}
use Rattle.msi_transform_making.specs.Making.{Pair, columns_before, columns_in_table, described_columns, made}
use Rattle.msi_transform_making.specs.Making.{names_beside}
use Rattle.msi_transform_making.specs.Making.{records_of_columns, told_names}
use Rattle.msi_transform_laws.specs.RowsBegun.{HasNewColumns}
use Rattle.msi_transform_laws.specs.SchemaApplied.{CountsSchema, SchemaAfter}
use Rattle.msi_transform_laws.specs.TableApplied.{CanHaveRecords}
use Rattle.msi_transform_laws.specs.TablesRemoved.{cells_removed}

abbrev pub shape_of : ColumnDef → Shape
shape_of c = record { coltype = c.coltype; is_key = c.is_primary_key }

-- a row of `_Columns` describes a column of a table that has this number: its name, its type, and whether it is of the
-- key
pub record Describes (table : List ℕ) (number : ℕ) (row : List Value) (c : ColumnDef) : Type 0 where
  pub name : Value
  pub bits : Value
  pub column : ColumnDef
  pub row_is : row ≡ Str table ∷ Int (pos number) ∷ name ∷ bits ∷ []
  pub column_is : column_told name bits ≡ Some column
  pub same_shape : shape_of column ≡ shape_of c
  pub same_name : column.name ≡ c.name

abbrev pub AreDescribed : List ℕ → ℕ → List (List Value) → List ColumnDef → Type 0
AreDescribed table number [] [] = ⊤
AreDescribed table number [] (c ∷ cs) = ⊥
AreDescribed table number (row ∷ rows) [] = ⊥
AreDescribed table number (row ∷ rows) (c ∷ cs) = Describes table number row c × AreDescribed table (number + 1) rows cs

-- the columns that a table of the new package has behind those of the old one are described
abbrev pub NewColumnsAreDescribed : Pair → List ℕ → Type 0
NewColumnsAreDescribed p name = let before = columns_before p.old.database name in
    AreDescribed name (before + 1) (drop before (described_columns p.new name))
    (drop before (columns_in_table p.new name))

-- and the others have the names that they had
abbrev pub ColumnsKeepNames : Pair → List ℕ → Type 0
ColumnsKeepNames p name = map (λ c. c.name) (columns_in_table p.old name)
    ≡ take (columns_before p.old.database name) (map (λ c. c.name) (columns_in_table p.new name))

-- What has to hold of two packages so that tables go, come and get columns: each has `_Tables` and `_Columns`, and no
-- two tables of one name; no table that comes has rows in a stream that no table lists; `_Columns` describes the
-- columns that come; and the old package's `_Tables` and `_Columns` have no two rows of one key
pub record TablesCanChange (p : Pair) : Type 0 where
  pub lists : has_table tables_name p.old.database ≡ true
  pub describes : has_table columns_name p.old.database ≡ true
  pub lists_too : has_table tables_name p.new.database ≡ true
  pub describes_too : has_table columns_name p.new.database ≡ true
  pub apart : has_pair bytes_eq (map (λ table. table.0) p.old.database.tables) ≡ false
  pub unlisted : AllByRecursion (λ name. is_unlisted p.old.database name ≡ false) (told_names p.new)
  pub described : AllByRecursion (NewColumnsAreDescribed p) (told_names p.new)
  pub names : AllByRecursion (ColumnsKeepNames p) (told_names p.new)
  pub own_tables : have_own_keys p.old.database.pool.places tables_columns (system_rows p.old.database tables_name)
      ≡ true
  pub own_columns :
      have_own_keys p.old.database.pool.places columns_columns (system_rows p.old.database columns_name) ≡ true

-- how many texts the records of `_Tables` and `_Columns` have at most: one for each table that comes, and three for
-- each column
abbrev pub texts_of_schema : Pair → ℕ
texts_of_schema p = length (names_beside p.new.database p.old.database)
    + length (flat_map (records_of_columns p.old p.new) (told_names p.new)) * 3

-- how many cells of the tables that go name a place
abbrev pub cells_gone : Pair → ℕ → ℕ
cells_gone p number = cells_removed p.old.database (names_beside p.old.database p.new.database) number

-- so applying the records of `_Tables` and `_Columns` gives each table the new package's columns
abbrev pub MadeSchemaIsNew : Type 0
MadeSchemaIsNew = (p : Pair) (t : TransformDef) (passing : ErrorConditions) (others : ℕ → ℕ) → made p ≡ Ok t
    → CanHaveRecords p → TablesCanChange p
    → CountsSchema (λ number. cells_gone p number + others number) (schema_begun p.old.database)
    → length p.old.database.pool.places + texts_of_schema p ≤ 16777215
    → (schema : SchemaInHand) × (schema_changed (change_with p.old t passing) ≡ Ok schema)
    × AllByRecursion (λ name. HasNewColumns p.old p.new name (table_in_hand p.old.database schema.tables name))
    (told_names p.new)
    × SchemaAfter others schema.tables (texts_of_schema p) (schema_begun p.old.database) schema
