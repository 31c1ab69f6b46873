-- Making a transform of two databases: which there is, or why there is none.
use Rattle.std.specs.Prelude.{ℕ, Result}
use Rattle.msi_base.specs.declared.errors.ErrorKind.{ErrorKind}
use Rattle.msi_base.specs.Refusals.{unless_refused, ◌>>=◌}
use Rattle.msi_database_changes.specs.Changes.{sound_refusal}
use Rattle.msi_database_storage.specs.Kept.{Kept}
use Rattle.msi_transform.specs.Transforms.{TransformDef}
use Rattle.msi_transform_making.specs.Making.{Side, made, pair_of}

-- a database, and the id of its pool's page as it is stored
abbrev pub side : ℕ → Kept → Side
side page_id k = record { page_id = page_id; kept = k }

-- both databases have to be sound, the old one first
abbrev pub with_sound : Side → Result TransformDef ErrorKind → Result TransformDef ErrorKind
with_sound s answer = unless_refused (sound_refusal s.kept.database) (tt {0}) >>= λ u. answer

-- the transform of two databases
abbrev pub transform_between : Side → Side → Result TransformDef ErrorKind
transform_between old new = with_sound old (with_sound new (made (pair_of old new)))
