-- The premises of the law on transforms that are made can be met, by packages of which a row differs.
use Rattle.std.specs.Prelude.{◌≡◌, Ok, codes}
use Rattle.msi_transform.specs.Transforms.{TransformDef}
use Rattle.msi_transform.specs.declared.conditions.ErrorConditions.{ErrorConditions}
use Rattle.msi_transform_making.specs.Making.{Pair, made, told_rows}
use Rattle.msi_transform_laws.specs.ExactPackages.{IsExact, IsInOrder}
use Rattle.msi_transform_laws.specs.TextsLeft.{CanTakeTransform}

-- two packages and a transform of them, whose table A hasn't the same rows in both
pub record PremisesAreMet (p : Pair) (t : TransformDef) (passing : ErrorConditions) : Type 0 where
  pub is_made : made p ≡ Ok t
  pub old : IsExact p.old
  pub new : IsInOrder p.new
  pub can : CanTakeTransform p t passing
  pub differs : told_rows p.old (codes "A") 0 ≡ told_rows p.new (codes "A") 0 → ⊥

abbrev pub PremisesCanBeMet : Type 0
PremisesCanBeMet = (p : Pair) × (t : TransformDef) × (passing : ErrorConditions) × PremisesAreMet p t passing
