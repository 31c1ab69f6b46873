-- Applying a transform that is made of two packages to the old one: nothing is refused, and what is left has the tables
-- of the new one.
use Rattle.std.specs.Prelude.{◌≡◌, ℕ, true, false, List, Ok}
use Rattle.std.specs.List.{AllByRecursion}
use Rattle.msi_database_schema.specs.System.{is_schema_table}
use Rattle.msi_database_changes.specs.Database.{has_table}
use Rattle.msi_transform.specs.Transforms.{TransformDef, shapes_of}
use Rattle.msi_transform.specs.declared.conditions.ErrorConditions.{ErrorConditions}
use Rattle.msi_transform_schema.specs.SchemaChanges.{TablesTold, is_gone, table_in_hand}
use Rattle.msi_transform_applying.specs.Applying.{TableAnew, TablesInHand, applied, is_anew}
use Rattle.msi_transform_making.specs.Making.{Pair, columns_in_table, made, names_beside, told_names, told_rows}
use Rattle.msi_transform_laws.specs.ExactPackages.{IsExact, IsInOrder}
use Rattle.msi_transform_laws.specs.MadeApplied.{left_of}
use Rattle.msi_transform_laws.specs.RowsBegun.{HasNewColumns, TextsOfTableStay}
use Rattle.msi_transform_laws.specs.TablesChanged.{HasNewRows}
use Rattle.msi_transform_laws.specs.TextsLeft.{CanTakeTransform}

-- a table of the old package that stays as it is: it has the types of the new package's columns, and its rows; and the
-- texts of its cells are still there
pub record StaysNew (p : Pair) (after : TablesInHand) (name : List ℕ) : Type 0 where
  pub there : has_table name p.old.database ≡ true
  pub columns : shapes_of (columns_in_table p.old name) ≡ shapes_of (columns_in_table p.new name)
  pub rows : told_rows p.old name 0 ≡ told_rows p.new name 0
  pub texts : TextsOfTableStay p.old name after

-- What is left has the new package's tables, and no other: each table of it has its columns; those that are stored
-- anew, beside `_Tables` and `_Columns`, are tables of it and have its rows; those that aren't have them too; and each
-- other table of the old package goes
pub record HasNewTables (p : Pair) (t : TransformDef) (passing : ErrorConditions) (told : TablesTold)
    (after : TablesInHand) : Type 0 where
  pub columns : AllByRecursion
      (λ name. HasNewColumns p.old p.new name (table_in_hand p.old.database told name)) (told_names p.new)
  pub names : AllByRecursion (λ (table : TableAnew). is_schema_table table.name ≡ false
      → has_table table.name p.new.database ≡ true) after.tables
  pub anew : AllByRecursion (λ (table : TableAnew). is_schema_table table.name ≡ false
      → HasNewRows p t passing after.pool.places table) after.tables
  pub stay : AllByRecursion (λ name. is_anew after name ≡ false → StaysNew p after name) (told_names p.new)
  pub gone : AllByRecursion (λ name. is_gone (table_in_hand p.old.database told name).standing ≡ true)
      (names_beside p.old.database p.new.database)

-- so it is of each transform that is made
abbrev pub MadeTransformsGiveNewPackage : Type 0
MadeTransformsGiveNewPackage = (p : Pair) (t : TransformDef) (passing : ErrorConditions) → made p ≡ Ok t
    → IsExact p.old → IsInOrder p.new → CanTakeTransform p t passing
    → (told : TablesTold) × (after : TablesInHand)
    × (applied p.old p.old_page t passing ≡ Ok (left_of p.old t after)) × HasNewTables p t passing told after
