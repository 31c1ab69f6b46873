-- Applying the records of a table of a transform that is made to the rows that the old package has of it.
use Rattle.std.specs.Prelude.{◌≡◌, ℕ, ◌+◌, ◌<◌, ◌≤◌, false, List, map, length, Some, Ok, bytes_eq}
use Rattle.std.specs.List.{AllByRecursion}
use Rattle.msi_base.specs.Lists.{has_pair}
use Rattle.msi_pool.specs.FirstFitLaws.{text_at}
use Rattle.msi_table_values.specs.Columns.{ColumnDef}
use Rattle.msi_database_schema.specs.System.{is_schema_table}
use Rattle.msi_transform.specs.Transforms.{TransformDef, records_for, shapes_of}
use Rattle.msi_transform.specs.declared.conditions.ErrorConditions.{ErrorConditions}
use Rattle.msi_transform_rows.specs.RowChanges.{RowsInHand, TableChange, record_applied}
use Rattle.msi_transform_rows.specs.TableRecords.{all_applied}
use Rattle.msi_transform_making.specs.Making.{Pair, ToldTable, columns_in_table, made, told_names, told_rows}
use Rattle.msi_transform_making.specs.Making.{told_tables}
use Rattle.msi_transform_laws.specs.CarriedOut.{IsTellable, rows_before}
use Rattle.msi_transform_laws.specs.RecordsRead.{IsSpellable}
use Rattle.msi_transform_laws.specs.RowsApplied.{CountsCells, HaveValuesOf, texts_of}

-- What has to hold of two packages, beside that a transform is made of them: no two tables of the new one have one
-- name; each of its tables can have records, with cells that its columns can hold; and it has at most 65536 rows
pub record CanHaveRecords (p : Pair) : Type 0 where
  pub apart : has_pair bytes_eq (map (λ table. table.0) p.new.database.tables) ≡ false
  pub tellable : AllByRecursion (IsTellable p.old p.new) (told_names p.new)
  pub spellable : AllByRecursion (λ table. AllByRecursion (IsSpellable table.shapes) table.records)
      (told_tables p.old p.new)
  pub few : AllByRecursion (λ name. length (told_rows p.new name 0) ≤ 65536) (told_names p.new)

abbrev pub table_change : List ℕ → List ColumnDef → TransformDef → ErrorConditions → TableChange
table_change name columns t passing = record { name = name; columns = columns; by = t; passing = passing }

-- what the records of a table leave: the new package's rows, a pool that counts their cells, and the texts of other
-- cells as they were
pub record LeavesNewRows (p : Pair) (change : TableChange) (others : ℕ → ℕ) (texts : ℕ) (before after : RowsInHand)
    : Type 0 where
  pub rows : HaveValuesOf p.old.streams change after.pool.places after.rows (told_rows p.new change.name 0)
  pub counted : CountsCells others after.pool.places after.rows
  pub kept : (number : ℕ) → 0 < others number
      → text_at after.pool.places number ≡ text_at before.pool.places number
  pub longer : length after.pool.places ≤ length before.pool.places + texts

-- The transform has records of the table; and applied to the old package's rows, whose columns have the types of the
-- new package's, they leave the new package's rows
abbrev pub GivesNewRows : Pair → TransformDef → ToldTable → Type 0
GivesNewRows p t table = (columns : List ColumnDef) (passing : ErrorConditions) (others : ℕ → ℕ) (before : RowsInHand)
    (number : ℕ) → shapes_of columns ≡ shapes_of (columns_in_table p.new table.name)
    → HaveValuesOf p.old.streams (table_change table.name columns t passing) before.pool.places before.rows
    (rows_before p.old p.new table.name)
    → CountsCells others before.pool.places before.rows
    → length before.pool.places + texts_of table.records ≤ 16777215
    → (bytes : List ℕ) × (records_for table.name t ≡ Some bytes) × (after : RowsInHand)
    × (all_applied number t (shapes_of columns) bytes (record_applied (table_change table.name columns t passing))
    before ≡ Ok after)
    × LeavesNewRows p (table_change table.name columns t passing) others (texts_of table.records) before after

-- so it is for each table of which a transform that is made has records
abbrev pub MadeRecordsGiveNewRows : Type 0
MadeRecordsGiveNewRows = (p : Pair) (t : TransformDef) → made p ≡ Ok t → CanHaveRecords p
    → AllByRecursion (λ table. is_schema_table table.name ≡ false → GivesNewRows p t table) (told_tables p.old p.new)
