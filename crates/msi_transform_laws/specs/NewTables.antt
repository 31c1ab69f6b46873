-- Applying a transform that is made to the old package: the tables that are stored anew are those of the new package.
use Rattle.std.specs.Prelude.{◌≡◌, ℕ, ◌+◌, ◌<◌, ◌≤◌, true, List, ◌++◌, length, Ok}
use Rattle.std.specs.List.{AllByRecursion}
use Rattle.msi_pool.specs.FirstFitLaws.{text_at}
use Rattle.msi_transform.specs.Transforms.{TransformDef}
use Rattle.msi_transform.specs.declared.conditions.ErrorConditions.{ErrorConditions}
use Rattle.msi_transform_rows.specs.TableRecords.{changes_schema}
use Rattle.msi_transform_schema.specs.SchemaApplying.{schema_begun}
use Rattle.msi_transform_schema.specs.SchemaChanges.{SchemaInHand, table_in_hand}
use Rattle.msi_transform_applying.specs.Applying.{TableAnew, TablesInHand, change_with, changed_with, systems_anew}
use Rattle.msi_transform_applying.specs.Applying.{tables_changed}
use Rattle.msi_transform_making.specs.Making.{Pair, made, told_names}
use Rattle.msi_transform_laws.specs.RowsBegun.{HasNewColumns, HoldsStreams}
use Rattle.msi_transform_laws.specs.SameColumns.{PassesPage}
use Rattle.msi_transform_laws.specs.SchemaApplied.{CountsSchema}
use Rattle.msi_transform_laws.specs.SchemaMade.{TablesCanChange, cells_gone, texts_of_schema}
use Rattle.msi_transform_laws.specs.TableApplied.{CanHaveRecords}
use Rattle.msi_transform_laws.specs.TablesChanged.{HasNewRows, cells_to_change, texts_to_come}

-- What is in hand once all records are applied: each table has the new package's columns; those that are stored anew,
-- beside `_Tables` and `_Columns`, have its rows; and the texts of other cells stay
pub record AreNewTables (p : Pair) (t : TransformDef) (passing : ErrorConditions) (others : ℕ → ℕ)
    (schema : SchemaInHand) (after : TablesInHand) (done : List TableAnew) : Type 0 where
  pub columns : AllByRecursion
      (λ name. HasNewColumns p.old p.new name (table_in_hand p.old.database schema.tables name)) (told_names p.new)
  pub tables : after.tables ≡ systems_anew t schema ++ done
  pub rows : AllByRecursion (HasNewRows p t passing after.pool.places) done
  pub kept : (number : ℕ) → 0 < others number
      → text_at after.pool.places number ≡ text_at p.old.database.pool.places number

-- So it is where some table goes, comes or gets columns: nothing is refused before the tables are stored
abbrev pub MadeTransformsGiveNewTables : Type 0
MadeTransformsGiveNewTables = (p : Pair) (t : TransformDef) (passing : ErrorConditions) (others : ℕ → ℕ)
    → made p ≡ Ok t → CanHaveRecords p → TablesCanChange p → changes_schema t ≡ true
    → AllByRecursion (HoldsStreams p.old) (told_names p.new) → PassesPage p passing
    → CountsSchema (λ number. cells_gone p number + (cells_to_change p.old.database t.tables number + others number))
    (schema_begun p.old.database)
    → length p.old.database.pool.places + texts_of_schema p + texts_to_come p t.tables ≤ 16777215
    → (schema : SchemaInHand) × (after : TablesInHand) × (done : List TableAnew)
    × (tables_changed (change_with p.old t passing) p.old_page ≡ Ok (changed_with schema.tables after))
    × AreNewTables p t passing others schema after done
