-- Records that can be carried out one after the other on rows of values: each finds the row that it removes or changes,
-- or room for the row that it adds.
use Rattle.std.specs.Prelude.{◌≡◌, ℕ, ◌≤◌, true, false, ⊤, List, [], ◌∷◌, length, None, is_some}
use Rattle.std.specs.FinMap.{find}
use Rattle.std.specs.List.{list_any}
use Rattle.msi_table_values.specs.Columns.{ColumnDef}
use Rattle.msi_database_storage.specs.Kept.{Kept}
use Rattle.msi_transform_records.specs.declared.action.Action.{Action}
use Rattle.msi_transform_records.specs.declared.action.Action.TheVariants.{Add, Remove, Change}
use Rattle.msi_transform_rows.specs.KeyOfRows.{key_cmp}
use Rattle.msi_transform_making.specs.Making.{ToldRecord, ToldRows, columns_in_table, differences, records_of_table}
use Rattle.msi_transform_making.specs.Making.{told_rows}
use Rattle.msi_transform_laws.specs.CarriedOut.{AreNewRows, AreOldRows, IsTellable, is_key_of_streams, record_done}
use Rattle.msi_transform_laws.specs.CarriedOut.{rows_before}

-- The row that is removed or changed is there; one that is added isn't, and there is room for it
abbrev pub CanFollow : ToldRows → ToldRecord → Action → Type 0
CanFollow rows r Remove = is_some (find key_cmp r.key rows) ≡ true
CanFollow rows r (Change mask) = is_some (find key_cmp r.key rows) ≡ true
CanFollow rows r (Add k) = (find key_cmp r.key rows ≡ None) × (length rows ≤ 65535)

-- one record after the other
abbrev pub CanFollowInTurn : List ColumnDef → ToldRows → List ToldRecord → Type 0
CanFollowInTurn columns rows [] = ⊤
CanFollowInTurn columns rows (r ∷ rs) =
    CanFollow rows r r.action × CanFollowInTurn columns (record_done columns rows r) rs

-- the records of what differs between the rows of a table can be, where the new rows aren't too many
abbrev pub DifferencesCanFollow : Type 0
DifferencesCanFollow = (columns : List ColumnDef) (old new : ToldRows) → list_any is_key_of_streams columns ≡ false
    → AreOldRows columns old → AreNewRows columns new → length new ≤ 65536
    → CanFollowInTurn columns old (differences columns old new)

-- and so can the records of a table of a transform that is made, on the rows that the old package has of it
abbrev pub RecordsCanFollow : Type 0
RecordsCanFollow = (old new : Kept) (name : List ℕ) → IsTellable old new name → length (told_rows new name 0) ≤ 65536
    → CanFollowInTurn (columns_in_table new name) (rows_before old new name) (records_of_table old new name)
