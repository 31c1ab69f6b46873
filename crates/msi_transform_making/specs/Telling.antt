-- What a record that is made does with a row.
use Rattle.std.specs.Prelude.{ℕ}
use Rattle.msi_transform_records.specs.declared.action.Action.{Action}
use Rattle.msi_transform_records.specs.declared.action.Action.TheVariants as action
use Rattle.msi_transform_making.specs.declared.telling.Telling.{Telling}
use Rattle.msi_transform_making.specs.declared.telling.Telling.TheVariants as telling

-- as a record of so many values
abbrev pub action_of : Telling → ℕ → Action
action_of telling.Add count = action.Add count
action_of telling.Remove count = action.Remove
action_of (telling.Change mask) count = action.Change mask
