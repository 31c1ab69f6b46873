use Rattle.msi_container_read.proofs.plans.StorageListLemmas.{storages_once}
use Rattle.msi_container_read.proofs.laws.one_storage_list.Goals as goal

pub returns : goal.returns
returns c = storages_once
