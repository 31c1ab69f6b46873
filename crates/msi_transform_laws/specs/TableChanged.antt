-- A table of the old package changed by a transform that is made of it: its rows become those of the new package.
use Rattle.std.specs.Prelude.{◌≡◌, ℕ, ◌+◌, ◌≤◌, false, List, length, Some, Ok}
use Rattle.std.specs.List.{AllByRecursion}
use Rattle.msi_database_schema.specs.System.{is_schema_table}
use Rattle.msi_transform.specs.Transforms.{TransformDef, records_for}
use Rattle.msi_transform.specs.declared.conditions.ErrorConditions.{ErrorConditions}
use Rattle.msi_transform_rows.specs.RowChanges.{RowsInHand}
use Rattle.msi_transform_schema.specs.SchemaChanges.{TablesTold, columns_in_hand, table_in_hand}
use Rattle.msi_transform_applying.specs.Applying.{TablesInHand, change_with, rows_in_hand, table_applied, with_anew}
use Rattle.msi_transform_making.specs.Making.{Pair, ToldTable, made, told_tables}
use Rattle.msi_transform_laws.specs.RowsApplied.{CountsCells, texts_of}
use Rattle.msi_transform_laws.specs.RowsBegun.{HasNewColumns, HoldsStreams, TextsOfTableStay}
use Rattle.msi_transform_laws.specs.TableApplied.{CanHaveRecords, LeavesNewRows, table_change}

-- Where a table has its new columns, the transform's records of it are applied to the rows that the package has, and
-- leave the rows of the new package: so long as the texts of its cells are still there, and the pool counts its cells
-- and has room for the new texts
abbrev pub TableIsChanged : Pair → TransformDef → ToldTable → Type 0
TableIsChanged p t table = (known : TablesTold) (passing : ErrorConditions) (others : ℕ → ℕ) (s : TablesInHand)
    (number : ℕ) →
    let d = p.old.database in
    let now = table_in_hand d known table.name in
    let columns = columns_in_hand d table.name now in
    let begun = rows_in_hand d table.name now s in
    HasNewColumns p.old p.new table.name now → HoldsStreams p.old table.name → TextsOfTableStay p.old table.name s
    → CountsCells others s.pool.places begun.rows → length s.pool.places + texts_of table.records ≤ 16777215
    → (bytes : List ℕ) × (records_for table.name t ≡ Some bytes) × (after : RowsInHand)
    × (table_applied (change_with p.old t passing) known number s (table.name, bytes)
    ≡ Ok (with_anew table.name columns s after))
    × LeavesNewRows p (table_change table.name columns t passing) others (texts_of table.records) begun after

abbrev pub MadeTablesAreChanged : Type 0
MadeTablesAreChanged = (p : Pair) (t : TransformDef) → made p ≡ Ok t → CanHaveRecords p
    → AllByRecursion (λ table. is_schema_table table.name ≡ false → TableIsChanged p t table) (told_tables p.old p.new)
