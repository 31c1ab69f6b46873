-- Conditions that ignore more errors: what is applied without them is applied alike with them.
use Rattle.std.specs.Prelude.{◌≡◌, ℕ, true, Ok}
use Rattle.msi_database_storage.specs.Kept.{Kept}
use Rattle.msi_transform.specs.Transforms.{TransformDef}
use Rattle.msi_transform.specs.declared.conditions.ErrorConditions.{ErrorConditions}
use Rattle.msi_transform_applying.specs.Applying.{Left, applied}

-- each error that the first ignore, the second ignore, too
pub record IgnoresAll (more fewer : ErrorConditions) : Type 0 where
  pub added_row_exists : fewer.added_row_exists ≡ true → more.added_row_exists ≡ true
  pub removed_row_missing : fewer.removed_row_missing ≡ true → more.removed_row_missing ≡ true
  pub added_table_exists : fewer.added_table_exists ≡ true → more.added_table_exists ≡ true
  pub removed_table_missing : fewer.removed_table_missing ≡ true → more.removed_table_missing ≡ true
  pub changed_row_missing : fewer.changed_row_missing ≡ true → more.changed_row_missing ≡ true
  pub other_page : fewer.other_page ≡ true → more.other_page ≡ true

-- a transform that is applied leaves the same where more errors are ignored
abbrev pub MoreConditionsLeaveTheSame : Type 0
MoreConditionsLeaveTheSame = (k : Kept) (page_id : ℕ) (t : TransformDef) (more fewer : ErrorConditions) (left : Left)
    → IgnoresAll more fewer → applied k page_id t fewer ≡ Ok left → applied k page_id t more ≡ Ok left
