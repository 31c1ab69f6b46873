-- A transform applied to a package.
use Rattle.std.specs.Prelude.{ℕ, Bool, true, if◌then◌else◌, Result}
use Rattle.msi_base.specs.Pages.{page_id}
use Rattle.msi_base.specs.Refusals.{unless_refused}
use Rattle.msi_container_write.specs.LayoutLaw.{HaveNames}
use Rattle.msi_database_storage.specs.Kept.{Kept}
use Rattle.msi_transform.specs.StoredPools.{stored_page_id}
use Rattle.msi_transform.specs.Transforms.{TransformDef}
use Rattle.msi_transform.specs.declared.conditions.ErrorConditions.{ErrorConditions}
use Rattle.msi_transform_rows.specs.RecordRefusals.{◌>>=◌, Refusal, nowhere}
use Rattle.msi_database.specs.Keeping.{IsKeptDatabase}
use Rattle.msi_database.specs.Transforming as databases
use Rattle.msi.specs.State.{State, parts_of, storage_refusal}

-- the id of the pool's page: where the pool was changed that of its page, else what its stream has, which may be 0
abbrev pub page_of : Kept → Bool → ℕ
page_of k is_pool_changed = if is_pool_changed then page_id k.database.pool.page else stored_page_id k.streams

abbrev pub stored_page : State → ℕ
stored_page s = page_of s.kept s.is_pool_changed

-- the database that a transform makes, or why it makes none
abbrev pub transforming : State → TransformDef → ErrorConditions → Result Kept Refusal
transforming s t passing = nowhere (unless_refused (storage_refusal (parts_of s)) s.kept) >>=
    λ k. databases.apply_transform k (stored_page s) t passing

abbrev pub after_transform : State → Kept → State
after_transform s k = record s { kept = k; is_unwritten = true; is_pool_changed = true }

-- what its call says of the database that it leaves: the streams have names of a container, and spell it
pub record IsLeft (k : Kept) : Type 0 where
  pub names : HaveNames k.streams
  pub database : IsKeptDatabase k
