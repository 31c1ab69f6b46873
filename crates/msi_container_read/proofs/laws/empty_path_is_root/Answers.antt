use Rattle.msi_container_read.proofs.plans.StorageLemmas.{held_of_root, held_at_root}
use Rattle.msi_container_read.proofs.laws.empty_path_is_root.Goals as goal

pub returns : goal.returns
returns c = λ bytes contents. (held_of_root bytes contents, held_at_root bytes contents)
