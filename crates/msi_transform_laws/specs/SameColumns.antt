-- Packages whose tables have the same columns: applying the transform that was made of them changes the tables of the
-- old one into those of the new one.
use Rattle.std.specs.Prelude.{◌≡◌, ℕ, ◌+◌, ◌≤◌, true, false, List, [], length, Ok}
use Rattle.std.specs.List.{AllByRecursion}
use Rattle.msi_database_changes.specs.Database.{has_table}
use Rattle.msi_transform.specs.Transforms.{TransformDef, shapes_of}
use Rattle.msi_transform.specs.declared.conditions.ErrorConditions.{ErrorConditions}
use Rattle.msi_transform_rows.specs.TableRecords.{changes_schema}
use Rattle.msi_transform_schema.specs.SchemaApplying.{schema_untouched}
use Rattle.msi_transform_applying.specs.Applying.{TableAnew, TablesInHand, change_with, changed_with, tables_begun}
use Rattle.msi_transform_applying.specs.Applying.{tables_changed}
use Rattle.msi_transform_making.specs.Making.{Pair, columns_in_table, made, needs_other_page, told_names}
use Rattle.msi_transform_laws.specs.RowsBegun.{HoldsStreams}
use Rattle.msi_transform_laws.specs.TableApplied.{CanHaveRecords}
use Rattle.msi_transform_laws.specs.TablesChanged.{AreChanged, CountsCellsOf, cells_to_change, texts_to_come}

-- the old package has each table of the new one, with columns of the same types, and no null in columns of streams
pub record HaveSameColumns (p : Pair) : Type 0 where
  pub there : AllByRecursion (λ name. has_table name p.old.database ≡ true) (told_names p.new)
  pub columns : AllByRecursion
      (λ name. shapes_of (columns_in_table p.old name) ≡ shapes_of (columns_in_table p.new name)) (told_names p.new)
  pub streams : AllByRecursion (HoldsStreams p.old) (told_names p.new)

-- the transform may change the page, where it has to
abbrev pub PassesPage : Pair → ErrorConditions → Type 0
PassesPage p passing = (needs_other_page p ≡ true → passing.other_page ≡ true)

-- Such a transform is applied to the old package: each table of which it has records is stored anew with the rows of
-- the new package, and no other
abbrev pub SameColumnsGiveNewTables : Type 0
SameColumnsGiveNewTables = (p : Pair) (t : TransformDef) (passing : ErrorConditions) (others : ℕ → ℕ)
    → made p ≡ Ok t → CanHaveRecords p → HaveSameColumns p → changes_schema t ≡ false → PassesPage p passing
    → CountsCellsOf (cells_to_change p.old.database t.tables) others p.old.database.pool.places
    → length p.old.database.pool.places + texts_to_come p t.tables ≤ 16777215
    → (after : TablesInHand) × (done : List TableAnew)
    × (tables_changed (change_with p.old t passing) p.old_page ≡ Ok (changed_with [] after))
    × AreChanged p t passing others t.tables
    (tables_begun (change_with p.old t passing) (schema_untouched p.old.database)) after done
