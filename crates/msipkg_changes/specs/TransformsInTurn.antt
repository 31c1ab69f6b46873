-- Transforms that are applied to a package in turn, once its texts are counted anew where their counts are too low.
use Rattle.std.specs.Prelude.{◌≡◌, ◌⊎◌, ℕ, zero, suc, Option, IfSome}
use Rattle.msi.specs.Steps.{after_recount}
use Rattle.msi.specs.Transforming.{transforming}
use Rattle.msi.specs.Whole.{Becomes, Whole, with_state}
use Rattle.msi_transform.specs.Transforms.{TransformDef}
use Rattle.msi_transform.specs.declared.conditions.ErrorConditions.{ErrorConditions}

-- a package as it was, or with its texts counted anew
abbrev pub IsMended : Whole → Whole → Type 0
IsMended old new = (new ≡ old) ⊎ (new ≡ with_state (after_recount old.state) old)

-- a transform is applied: it ignores the errors that were asked for, if some were
abbrev pub IsApplied : Option ErrorConditions → Whole → Whole → Type 0
IsApplied asked old new = (t : TransformDef) × (ignored : ErrorConditions)
    × Becomes old (transforming old.state t ignored) new × IfSome asked (λ asked. ignored ≡ asked)

-- so many are applied in turn
abbrev pub AreApplied : Option ErrorConditions → ℕ → Whole → Whole → Type 0
AreApplied asked zero old new = new ≡ old
AreApplied asked (suc n) old new = (between : Whole) × AreApplied asked n old between × IsApplied asked between new
