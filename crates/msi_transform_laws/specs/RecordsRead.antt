-- Reading the records of a transform that is made gives the records that were stored in it.
use Rattle.std.specs.Prelude.{◌≡◌, ℕ, true, false, List, map, Option, Some, option_and_then, option_map}
use Rattle.std.specs.Prelude.{bytes_eq, Ok}
use Rattle.std.specs.List.{AllByRecursion}
use Rattle.msi_base.specs.Lists.{has_pair}
use Rattle.msi_table_cells.specs.declared.cell.ValueRef.{ValueRef}
use Rattle.msi_table_cells.specs.declared.cell.ValueRef.TheVariants as cell
use Rattle.msi_table_values.specs.declared.value.Value.{Value}
use Rattle.msi_table_values.specs.declared.value.Value.TheVariants.{Null, Int, Str, Binary}
use Rattle.msi_database_changes.specs.Texts.{PoolInUse}
use Rattle.msi_database_storage.specs.Kept.{Kept}
use Rattle.msi_transform_records.specs.declared.action.Action.{Action}
use Rattle.msi_transform_records.specs.declared.records.Record.{Record}
use Rattle.msi_transform_records.specs.declared.shape.Shape.{Shape}
use Rattle.msi_transform_records.specs.Records.{FitsRecord, record_with, records_in}
use Rattle.msi_transform.specs.Transforms.{TransformDef, records_for, value_in}
use Rattle.msi_transform_making.specs.Making.{Pair, ToldRecord, ToldTable, made, stored_tables, told_tables}
use Rattle.msi_transform_making.specs.Making.{transform_with}

-- the cell of a value, were its text the pool's first
abbrev pub cell_like : Value → ValueRef
cell_like Null = cell.Null
cell_like (Int n) = cell.Int n
cell_like (Str text) = cell.Str 1
cell_like Binary = cell.Binary

-- a record that can be spelled: it has a value for each column that its mask names, which the column can hold
abbrev pub IsSpellable : List Shape → ToldRecord → Type 0
IsSpellable shapes r = FitsRecord true shapes (record_with r.action (map cell_like r.values))

-- a record, and one that is read, as values
abbrev pub action_and_values : ToldRecord → Action × List Value
action_and_values r = (r.action, r.values)

abbrev pub as_values : TransformDef → Record → Action × List Value
as_values t r = (r.action, map (value_in t) r.cells)

abbrev pub values_read : TransformDef → ToldTable → Option (List (Action × List Value))
values_read t table = option_map (map (as_values t))
    (option_and_then (records_in table.shapes t.pool) (records_for table.name t))

-- reading the records that were stored for a table gives each its action and its values back
abbrev pub StoredRecordsAreRead : Type 0
StoredRecordsAreRead = (page_id : ℕ) (new : Kept) (tables : List ToldTable)
    (stored : List (ToldTable × List Record) × PoolInUse) → stored_tables tables ≡ Some stored
    → AllByRecursion (λ table. AllByRecursion (IsSpellable table.shapes) table.records) tables
    → has_pair bytes_eq (map (λ table. table.name) tables) ≡ false
    → AllByRecursion (λ table. values_read (transform_with page_id new tables stored) table
    ≡ Some (map action_and_values table.records)) tables

-- so are those of a transform that is made, where no two tables of new have one name
abbrev pub MadeRecordsAreRead : Type 0
MadeRecordsAreRead = (p : Pair) (t : TransformDef) → made p ≡ Ok t
    → has_pair bytes_eq (map (λ table. table.0) p.new.database.tables) ≡ false
    → AllByRecursion (λ table. AllByRecursion (IsSpellable table.shapes) table.records) (told_tables p.old p.new)
    → AllByRecursion (λ table. values_read t table ≡ Some (map action_and_values table.records))
    (told_tables p.old p.new)
