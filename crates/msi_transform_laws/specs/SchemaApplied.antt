-- Records of `_Tables` and of `_Columns` applied: tables that come, and columns that are added behind those that a
-- table has.
use Rattle.std.specs.Prelude.{◌≡◌, ℕ, ◌+◌, ◌<◌, ◌≤◌, pos, true, false, not, ◌&&◌, T, ⊤, List, [], ◌∷◌, ◌++◌, map}
use Rattle.std.specs.Prelude.{length, nat_le, None, Some, Ok}
use Rattle.std.specs.FinMap.{find, is_sorted, put}
use Rattle.msi_base.specs.Lists.{list_cmp}
use Rattle.msi_pool.specs.FirstFitLaws.{count_at, text_at}
use Rattle.msi_table_values.specs.declared.value.Value.{Value}
use Rattle.msi_table_values.specs.declared.value.Value.TheVariants.{Null, Int, Str, Binary}
use Rattle.msi_table_values.specs.Columns.{ColumnDef, has_column}
use Rattle.msi_database_schema.specs.System.{columns_columns, tables_columns}
use Rattle.msi_database_changes.specs.Database.{Database, has_table}
use Rattle.msi_transform_records.specs.declared.action.Action.TheVariants.{Add}
use Rattle.msi_transform_records.specs.declared.records.Record.{Record}
use Rattle.msi_transform.specs.Transforms.{shapes_of}
use Rattle.msi_transform_rows.specs.KeyOfRows.{key_cmp}
use Rattle.msi_transform_rows.specs.RecordRefusals.{in_turn_from}
use Rattle.msi_transform_schema.specs.SchemaChanges.{SchemaChange, SchemaInHand, TablesTold, column_record_applied}
use Rattle.msi_transform_schema.specs.SchemaChanges.{column_told, columns_in_hand, is_added, is_name_to_list}
use Rattle.msi_transform_schema.specs.SchemaChanges.{is_unlisted, table_in_hand, table_record_applied}
use Rattle.msi_transform_schema.specs.declared.schema.Standing.{Standing}
use Rattle.msi_transform_schema.specs.declared.schema.Standing.TheVariants as stands
use Rattle.msi_transform_making.specs.Making.{ToldRecord, listing_record}
use Rattle.msi_transform_laws.specs.RowsApplied.{SaySame, cells_naming, texts_in}

-- The pool counts the rows of `_Tables` and `_Columns`, each beside its key, and so many other cells at least
pub record CountsSchema (others : ℕ → ℕ) (s : SchemaInHand) : Type 0 where
  pub listed : T (is_sorted key_cmp s.listed)
  pub described : T (is_sorted key_cmp s.described)
  pub counts : (number : ℕ) → 0 < number
      → cells_naming s.listed number + cells_naming s.described number + others number ≤ count_at s.pool.places number
  pub from_one : cells_naming s.listed 0 + cells_naming s.described 0 + others 0 ≡ 0

-- what applying such records leaves: these tables, a pool that counts the new rows too, and the texts of other cells as
-- they were
pub record SchemaAfter (others : ℕ → ℕ) (known : TablesTold) (texts : ℕ) (before after : SchemaInHand) : Type 0 where
  pub tables : after.tables ≡ known
  pub counted : CountsSchema others after
  pub kept : (number : ℕ) → 0 < others number → text_at after.pool.places number ≡ text_at before.pool.places number
  pub longer : length after.pool.places ≤ length before.pool.places + texts

-- TABLES THAT COME

-- a table can come that neither the package nor an earlier record has
pub record CanAddTable (d : Database) (tables : TablesTold) (name : List ℕ) : Type 0 where
  pub listed : is_name_to_list name ≡ true
  pub absent : find list_cmp name tables ≡ None
  pub new : has_table name d ≡ false
  pub unlisted : is_unlisted d name ≡ false

abbrev pub with_table_added : TablesTold → List ℕ → TablesTold
with_table_added tables name = put list_cmp name (record { standing = stands.Added; added = [] }) tables

abbrev pub with_tables_added : TablesTold → List (List ℕ) → TablesTold
with_tables_added tables [] = tables
with_tables_added tables (name ∷ names) = with_tables_added (with_table_added tables name) names

abbrev pub CanAddTables : Database → TablesTold → List (List ℕ) → Type 0
CanAddTables d tables [] = ⊤
CanAddTables d tables (name ∷ names) =
    CanAddTable d tables name × CanAddTables d (with_table_added tables name) names

-- the records that list them are applied
abbrev pub ListingRecordsAreApplied : Type 0
ListingRecordsAreApplied = (change : SchemaChange) (others : ℕ → ℕ) (before : SchemaInHand) (names : List (List ℕ))
    (stored : List Record) (table number : ℕ) → SaySame change.by (map (listing_record (Add 1)) names) stored
    → CanAddTables change.database before.tables names → CountsSchema others before
    → length before.pool.places + length names ≤ 16777215
    → (after : SchemaInHand)
    × (in_turn_from table (table_record_applied change (shapes_of tables_columns)) number before stored ≡ Ok after)
    × SchemaAfter others (with_tables_added before.tables names) (length names) before after

-- COLUMNS THAT ARE ADDED

-- a column, as a record of `_Columns` has it: its table, its number or null, its name and the bits of its type; and the
-- column that these describe
pub record ColumnToAdd : Type 0 where
  pub table : List ℕ
  pub number : Value
  pub name : Value
  pub bits : Value
  pub column : ColumnDef

abbrev pub record_of_column : ColumnToAdd → ToldRecord
record_of_column c = record {
  action = Add 4;
  values = Str c.table ∷ c.number ∷ c.name ∷ c.bits ∷ [];
  key = [];
  stream = None;
}

-- null, or this number
abbrev pub IsNumber : ℕ → Value → Type 0
IsNumber n Null = ⊤
IsNumber n (Int i) = i ≡ pos n
IsNumber n (Str text) = ⊥
IsNumber n Binary = ⊥

abbrev pub IsKeptOrAdded : Standing → Type 0
IsKeptOrAdded stands.Kept = ⊤
IsKeptOrAdded stands.Added = ⊤
IsKeptOrAdded (stands.Found next) = ⊥
IsKeptOrAdded stands.Gone = ⊥

-- A column can be added behind those that its table has, of which none has its name: where the table isn't new it is
-- none of the key; and the table has fewer than 32
pub record CanAddColumn (d : Database) (tables : TablesTold) (c : ColumnToAdd) : Type 0 where
  pub described : column_told c.name c.bits ≡ Some c.column
  pub stands : IsKeptOrAdded (table_in_hand d tables c.table).standing
  pub next : IsNumber (length (columns_in_hand d c.table (table_in_hand d tables c.table)) + 1) c.number
  pub apart : has_column c.column.name (columns_in_hand d c.table (table_in_hand d tables c.table)) ≡ false
  pub plain : (c.column.is_primary_key && not (is_added (table_in_hand d tables c.table).standing)) ≡ false
  pub few : nat_le 32 (length (columns_in_hand d c.table (table_in_hand d tables c.table))) ≡ false

abbrev pub with_column_added : Database → TablesTold → ColumnToAdd → TablesTold
with_column_added d tables c = put list_cmp c.table (record {
  standing = (table_in_hand d tables c.table).standing;
  added = (table_in_hand d tables c.table).added ++ c.column ∷ [];
}) tables

abbrev pub with_columns_added : Database → TablesTold → List ColumnToAdd → TablesTold
with_columns_added d tables [] = tables
with_columns_added d tables (c ∷ cs) = with_columns_added d (with_column_added d tables c) cs

abbrev pub CanAddColumns : Database → TablesTold → List ColumnToAdd → Type 0
CanAddColumns d tables [] = ⊤
CanAddColumns d tables (c ∷ cs) = CanAddColumn d tables c × CanAddColumns d (with_column_added d tables c) cs

-- how many texts a column's row has, which has the column's number in any case
abbrev pub texts_of_columns : List ColumnToAdd → ℕ
texts_of_columns [] = 0
texts_of_columns (c ∷ cs) = texts_in (Str c.table ∷ c.name ∷ c.bits ∷ []) + texts_of_columns cs

-- the records that describe them are applied
abbrev pub ColumnRecordsAreApplied : Type 0
ColumnRecordsAreApplied = (change : SchemaChange) (others : ℕ → ℕ) (before : SchemaInHand) (columns : List ColumnToAdd)
    (stored : List Record) (table number : ℕ) → SaySame change.by (map record_of_column columns) stored
    → CanAddColumns change.database before.tables columns → CountsSchema others before
    → length before.pool.places + texts_of_columns columns ≤ 16777215
    → (after : SchemaInHand)
    × (in_turn_from table (column_record_applied change (shapes_of columns_columns)) number before stored ≡ Ok after)
    × SchemaAfter others (with_columns_added change.database before.tables columns) (texts_of_columns columns) before
    after
