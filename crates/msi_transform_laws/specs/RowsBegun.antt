-- The rows of a table with which applying its records begins: those of the old package, with null in added columns.
use Rattle.std.specs.Prelude.{◌≡◌, ℕ, ◌<◌, Bool, true, false, ⊤, List, count_by, ◌==◌}
use Rattle.std.specs.List.{AllByRecursion}
use Rattle.msi_pool.specs.FirstFitLaws.{text_at}
use Rattle.msi_table.specs.Census.{numbers_of_rows}
use Rattle.msi_table_cells.specs.CellValues.{row_values}
use Rattle.msi_database_changes.specs.Database.{has_table}
use Rattle.msi_database_storage.specs.Kept.{Kept}
use Rattle.msi_transform.specs.Transforms.{TransformDef, shapes_of}
use Rattle.msi_transform.specs.declared.conditions.ErrorConditions.{ErrorConditions}
use Rattle.msi_transform_schema.specs.SchemaApplying.{system_rows}
use Rattle.msi_transform_schema.specs.SchemaChanges.{TableInHand, columns_in_hand}
use Rattle.msi_transform_schema.specs.declared.schema.Standing.{Standing}
use Rattle.msi_transform_schema.specs.declared.schema.Standing.TheVariants as stands
use Rattle.msi_transform_applying.specs.Applying.{TablesInHand, rows_in_hand}
use Rattle.msi_transform_making.specs.Making.{columns_in_table}
use Rattle.msi_transform_laws.specs.CarriedOut.{IsTellable, rows_before}
use Rattle.msi_transform_laws.specs.RowsApplied.{HaveValuesOf, values_held}
use Rattle.msi_transform_laws.specs.TableApplied.{table_change}

-- a table that the old package has stays or is found, and another is added
abbrev pub StandsAs : Bool → Standing → Type 0
StandsAs true stands.Kept = ⊤
StandsAs true (stands.Found next) = ⊤
StandsAs true stands.Added = ⊥
StandsAs true stands.Gone = ⊥
StandsAs false stands.Added = ⊤
StandsAs false stands.Kept = ⊥
StandsAs false (stands.Found next) = ⊥
StandsAs false stands.Gone = ⊥

-- and has columns of the new package's types
pub record HasNewColumns (old new : Kept) (name : List ℕ) (t : TableInHand) : Type 0 where
  pub stands : StandsAs (has_table name old.database) t.standing
  pub columns : shapes_of (columns_in_hand old.database name t) ≡ shapes_of (columns_in_table new name)

-- no cell of a column of streams is null, as it is in each package that is opened
abbrev pub HoldsStreams : Kept → List ℕ → Type 0
HoldsStreams k name = AllByRecursion
    (λ row. values_held (columns_in_table k name) (row_values k.database.pool.places row)
    ≡ row_values k.database.pool.places row)
    (system_rows k.database name)

-- the texts of a table's cells are still those of the package
abbrev pub TextsOfTableStay : Kept → List ℕ → TablesInHand → Type 0
TextsOfTableStay k name s = (number : ℕ)
    → 0 < count_by (λ n. n == number) (numbers_of_rows (system_rows k.database name))
    → text_at s.pool.places number ≡ text_at k.database.pool.places number

-- the rows in hand have the values of the old package's rows, and their streams
abbrev pub OldRowsAreInHand : Type 0
OldRowsAreInHand = (old new : Kept) (name : List ℕ) (t : TableInHand) (s : TablesInHand) (by : TransformDef)
    (passing : ErrorConditions) → IsTellable old new name → HasNewColumns old new name t → HoldsStreams old name
    → TextsOfTableStay old name s
    → HaveValuesOf old.streams (table_change name (columns_in_hand old.database name t) by passing) s.pool.places
    (rows_in_hand old.database name t s).rows (rows_before old new name)
