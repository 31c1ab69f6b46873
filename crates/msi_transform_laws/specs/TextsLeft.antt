-- The texts that are left once a transform that is made is applied: each can be written in the page that is left.
use Rattle.std.specs.Prelude.{◌≡◌, ◌+◌, ◌≤◌, true, length, Ok}
use Rattle.std.specs.List.{AllByRecursion}
use Rattle.msi_transform.specs.Transforms.{TransformDef}
use Rattle.msi_transform.specs.declared.conditions.ErrorConditions.{ErrorConditions}
use Rattle.msi_transform_applying.specs.Applying.{TablesChanged, change_with, pool_left, tables_changed}
use Rattle.msi_transform_applying.specs.Applying.{texts_read_back}
use Rattle.msi_transform_making.specs.Making.{Pair, made, told_names, told_rows, told_tables}
use Rattle.msi_transform_laws.specs.ExactPackages.{IsExact, IsInOrder, NeutralIsUtf8}
use Rattle.msi_transform_laws.specs.RecordsRead.{IsSpellable}
use Rattle.msi_transform_laws.specs.SameColumns.{PassesPage}
use Rattle.msi_transform_laws.specs.SchemaMade.{texts_of_schema}
use Rattle.msi_transform_laws.specs.TablesChanged.{texts_to_come}

-- What the old package needs so that the transform can be applied to it: its page may be changed where it has to be,
-- a neutral one is UTF-8, the cells of the records fit their columns, no table gets more than 65536 rows, and the pool
-- has room for the texts
pub record CanTakeTransform (p : Pair) (t : TransformDef) (passing : ErrorConditions) : Type 0 where
  pub page : PassesPage p passing
  pub neutral : NeutralIsUtf8 p.old_page p.old
  pub spellable : AllByRecursion (λ table. AllByRecursion (IsSpellable table.shapes) table.records)
      (told_tables p.old p.new)
  pub few : AllByRecursion (λ name. length (told_rows p.new name 0) ≤ 65536) (told_names p.new)
  pub room : length p.old.database.pool.places + texts_of_schema p + texts_to_come p t.tables ≤ 16777215

-- so the texts that are left can be read back, each in the page that is left
abbrev pub MadeTextsAreReadBack : Type 0
MadeTextsAreReadBack = (p : Pair) (t : TransformDef) (passing : ErrorConditions) (changed : TablesChanged)
    → made p ≡ Ok t → IsExact p.old → IsInOrder p.new → CanTakeTransform p t passing
    → tables_changed (change_with p.old t passing) p.old_page ≡ Ok changed
    → texts_read_back (pool_left p.old.database.pool t changed.tables.pool) ≡ true
