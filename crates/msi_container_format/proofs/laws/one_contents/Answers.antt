use Rattle.msi_container_format.proofs.PlanOnceLemmas.{held_once}
use Rattle.msi_container_format.proofs.laws.one_contents.Goals as goal

pub returns : goal.returns
returns c = held_once
