-- A package beside itself: the transform that is made of both has no records.
use Rattle.std.specs.Prelude.{◌≡◌, ℕ, [], Ok}
use Rattle.msi_database_storage.specs.Kept.{Kept}
use Rattle.msi_transform.specs.Transforms.{TransformDef}
use Rattle.msi_transform_making.specs.Making.{Pair, made}
use Rattle.msi_transform_laws.specs.DescribedPackages.{ColumnsAreDescribed}

-- a transform without records and without streams
pub record IsEmpty (t : TransformDef) : Type 0 where
  pub tables : t.tables ≡ []
  pub streams : t.streams ≡ []

abbrev pub with_itself : ℕ → Kept → Pair
with_itself page_id k = record { old_page = page_id; old = k; new_page = page_id; new = k }

abbrev pub SamePackagesHaveNoRecords : Type 0
SamePackagesHaveNoRecords = (k : Kept) (page_id : ℕ) (t : TransformDef) → ColumnsAreDescribed k
    → made (with_itself page_id k) ≡ Ok t → IsEmpty t
