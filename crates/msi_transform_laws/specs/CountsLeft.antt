-- The counts of the pool once a transform that is made is applied: each place counts the cells that name it.
use Rattle.std.specs.Prelude.{◌≡◌, ℕ, ◌<◌, Ok}
use Rattle.msi_pool.specs.FirstFitLaws.{count_at}
use Rattle.msi_transform.specs.Transforms.{TransformDef}
use Rattle.msi_transform.specs.declared.conditions.ErrorConditions.{ErrorConditions}
use Rattle.msi_transform_applying.specs.Applying.{TablesChanged, change_with, tables_changed, tables_left}
use Rattle.msi_transform_making.specs.Making.{Pair, made}
use Rattle.msi_transform_laws.specs.ExactPackages.{IsExact, IsInOrder}
use Rattle.msi_transform_laws.specs.TablesChanged.{cells_anew}
use Rattle.msi_transform_laws.specs.TextsLeft.{CanTakeTransform}

-- each place counts the cells that name it, of the tables that are stored anew and of those that stay
abbrev pub MadeCountsAreExact : Type 0
MadeCountsAreExact = (p : Pair) (t : TransformDef) (passing : ErrorConditions) (changed : TablesChanged)
    → made p ≡ Ok t → IsExact p.old → IsInOrder p.new → CanTakeTransform p t passing
    → tables_changed (change_with p.old t passing) p.old_page ≡ Ok changed
    → (number : ℕ) → 0 < number → count_at changed.tables.pool.places number
    ≡ cells_anew (tables_left p.old.database changed.told changed.tables) number
