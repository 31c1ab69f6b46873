use Rattle.msi_container_read.proofs.plans.StorageLemmas.{held_not_missing}
use Rattle.msi_container_read.proofs.laws.held_is_not_missing.Goals as goal

pub returns : goal.returns
returns c = held_not_missing
