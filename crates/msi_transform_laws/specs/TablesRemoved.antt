-- Records of `_Tables` that remove tables, applied: the tables go, with the texts of their rows, and of the rows of
-- `_Tables` and `_Columns` that list and describe them.
use Rattle.std.specs.Prelude.{◌≡◌, ℕ, ◌+◌, true, ⊤, List, [], ◌∷◌, map, count_by, ◌==◌, None, Ok}
use Rattle.std.specs.FinMap.{find, put}
use Rattle.msi_base.specs.Lists.{list_cmp}
use Rattle.msi_table.specs.Census.{numbers_of_rows}
use Rattle.msi_database_schema.specs.System.{tables_columns}
use Rattle.msi_database_changes.specs.Database.{Database, has_table}
use Rattle.msi_transform_records.specs.declared.action.Action.TheVariants.{Remove}
use Rattle.msi_transform_records.specs.declared.records.Record.{Record}
use Rattle.msi_transform.specs.Transforms.{shapes_of}
use Rattle.msi_transform_rows.specs.RecordRefusals.{in_turn_from}
use Rattle.msi_transform_schema.specs.SchemaApplying.{system_rows}
use Rattle.msi_transform_schema.specs.SchemaChanges.{SchemaChange, SchemaInHand, TablesTold, is_name_to_list}
use Rattle.msi_transform_schema.specs.SchemaChanges.{table_record_applied}
use Rattle.msi_transform_schema.specs.declared.schema.Standing.TheVariants as stands
use Rattle.msi_transform_making.specs.Making.{listing_record}
use Rattle.msi_transform_laws.specs.RowsApplied.{SaySame}
use Rattle.msi_transform_laws.specs.SchemaApplied.{CountsSchema, SchemaAfter}

-- a table can go that the package has, and of which no earlier record tells
pub record CanRemoveTable (d : Database) (tables : TablesTold) (name : List ℕ) : Type 0 where
  pub listed : is_name_to_list name ≡ true
  pub untold : find list_cmp name tables ≡ None
  pub there : has_table name d ≡ true

abbrev pub with_table_removed : TablesTold → List ℕ → TablesTold
with_table_removed tables name = put list_cmp name (record { standing = stands.Gone; added = [] }) tables

abbrev pub with_tables_removed : TablesTold → List (List ℕ) → TablesTold
with_tables_removed tables [] = tables
with_tables_removed tables (name ∷ names) = with_tables_removed (with_table_removed tables name) names

abbrev pub CanRemoveTables : Database → TablesTold → List (List ℕ) → Type 0
CanRemoveTables d tables [] = ⊤
CanRemoveTables d tables (name ∷ names) =
    CanRemoveTable d tables name × CanRemoveTables d (with_table_removed tables name) names

-- how many cells of the rows of these tables name a place
abbrev pub cells_removed : Database → List (List ℕ) → ℕ → ℕ
cells_removed d [] number = 0
cells_removed d (name ∷ names) number =
    count_by (λ n. n == number) (numbers_of_rows (system_rows d name)) + cells_removed d names number

-- the records that remove them are applied
abbrev pub RemovingRecordsAreApplied : Type 0
RemovingRecordsAreApplied = (change : SchemaChange) (others : ℕ → ℕ) (before : SchemaInHand) (names : List (List ℕ))
    (stored : List Record) (table number : ℕ) → SaySame change.by (map (listing_record Remove) names) stored
    → CanRemoveTables change.database before.tables names
    → CountsSchema (λ n. cells_removed change.database names n + others n) before
    → (after : SchemaInHand)
    × (in_turn_from table (table_record_applied change (shapes_of tables_columns)) number before stored ≡ Ok after)
    × SchemaAfter others (with_tables_removed before.tables names) 0 before after
