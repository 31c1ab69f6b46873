use Rattle.msi_container_read.proofs.plans.StorageLemmas.{held_at_once}
use Rattle.msi_container_read.proofs.laws.one_contents_at.Goals as goal

pub returns : goal.returns
returns c = held_at_once
