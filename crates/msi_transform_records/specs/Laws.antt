-- What follows from the definition of records.
use Rattle.std.specs.Prelude.{◌≡◌, ℕ, ◌<◌, List, All, Some}
use Rattle.msi_pool.specs.Pool.{Pool}
use Rattle.msi_transform_records.specs.declared.action.Action.{Action}
use Rattle.msi_transform_records.specs.declared.records.Record.{Record}
use Rattle.msi_transform_records.specs.declared.shape.Shape.{Shape}
use Rattle.msi_transform_records.specs.Actions.{IsAction, action_of_mask, mask_of}
use Rattle.msi_transform_records.specs.Records.{SpellsRecords, records_in}

-- records that are spelled are read
abbrev pub SpelledRecordsAreRead : Type 0
SpelledRecordsAreRead = (shapes : List Shape) (pool : Pool) (bytes : List ℕ) (records : List Record)
    → SpellsRecords shapes pool bytes records → records_in shapes pool bytes ≡ Some records

-- records that are read of bytes are spelled by them
abbrev pub ReadRecordsAreSpelled : Type 0
ReadRecordsAreSpelled = (shapes : List Shape) (pool : Pool) (bytes : List ℕ) (records : List Record)
    → All (λ b. b < 256) bytes → records_in shapes pool bytes ≡ Some records → SpellsRecords shapes pool bytes records

-- the same bytes spell no other records
abbrev pub RecordsAreUnambiguous : Type 0
RecordsAreUnambiguous = (shapes : List Shape) (pool : Pool) (bytes : List ℕ) (records others : List Record)
    → SpellsRecords shapes pool bytes records → SpellsRecords shapes pool bytes others → records ≡ others

-- a mask tells its action, and each action has a mask
abbrev pub MasksTellActions : Type 0
MasksTellActions = ((action : Action) → IsAction action → action_of_mask (mask_of action) ≡ Some action)
    × ((mask : ℕ) (action : Action) → action_of_mask mask ≡ Some action → mask_of action ≡ mask)
