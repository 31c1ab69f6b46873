use Rattle.msi_container_read.proofs.plans.StorageLemmas.{found_named}
use Rattle.msi_container_read.proofs.laws.found_storages_are_named.Goals as goal

pub returns : goal.returns
returns c = found_named
