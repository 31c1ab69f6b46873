-- Masks, what they say to do with a row, and of which columns cells follow them.
use Rattle.std.specs.Prelude.{◌≡◌, ℕ, ◌+◌, ◌*◌, ◌/◌, ◌%◌, ◌<◌, ◌^◌, Bool, true, not, List, length, drop, nat_le}
use Rattle.std.specs.Prelude.{⊤, nat_lt, Option, Some, None, ◌==◌, ◌&&◌, ◌||◌, if◌then◌else◌, filter}
use Rattle.std.specs.List.{enumerate_from, list_any}
use Rattle.msi_table_values.specs.Columns.{has_bit}
use Rattle.msi_transform_records.specs.declared.action.Action.{Action}
use Rattle.msi_transform_records.specs.declared.action.Action.TheVariants as action
use Rattle.msi_transform_records.specs.declared.shape.Shape.{Shape}

abbrev pub mask_of : Action → ℕ
mask_of (action.Add k) = 256 * k + 1
mask_of action.Remove = 0
mask_of (action.Change mask) = mask

-- 0 removes a row; any other even mask changes one; a low byte of 1 adds one
abbrev pub action_of_mask : ℕ → Option Action
action_of_mask mask = if mask == 0 then Some action.Remove
    else if mask % 2 == 0 then Some (action.Change mask)
    else if mask % 256 == 1 then Some (action.Add (mask / 256))
    else None

-- the actions that masks of 16 bits say
abbrev pub IsAction : Action → Type 0
IsAction (action.Add k) = k < 2 ^ 8
IsAction action.Remove = ⊤
IsAction (action.Change mask) = (0 < mask) × (mask % 2 ≡ 0) × (mask < 2 ^ 16)

-- whether the cell of a column, which has this number from 0 on, follows the mask: that of the first k columns, of the
-- key's columns, or of these and each column whose bit is set
abbrev pub tells : Action → ℕ → Shape → Bool
tells (action.Add k) i shape = nat_lt i k
tells action.Remove i shape = shape.is_key
tells (action.Change mask) i shape = shape.is_key || has_bit mask (2 ^ i)

-- the told ones of columns whose numbers begin with n, each with its number
abbrev pub told_from : ℕ → List Shape → Action → List (ℕ × Shape)
told_from n shapes action = filter (λ (column : ℕ × Shape). tells action column.0 column.1) (enumerate_from n shapes)

abbrev pub told : List Shape → Action → List (ℕ × Shape)
told shapes action = told_from 0 shapes action

-- an added row has at most a cell for each column, and one for each column of the key; a change has no bit past the
-- columns
abbrev pub fits_columns : List Shape → Action → Bool
fits_columns shapes (action.Add k) = nat_le k (length shapes) && not (list_any (λ s. s.is_key) (drop k shapes))
fits_columns shapes action.Remove = true
fits_columns shapes (action.Change mask) = nat_lt mask (2 ^ length shapes)

-- the columns whose cells follow the mask, in the table's order, unless the table hasn't the columns that it names
abbrev pub told_columns : List Shape → Action → Option (List (ℕ × Shape))
told_columns shapes action = if fits_columns shapes action then Some (told shapes action) else None
