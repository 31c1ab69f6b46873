use Rattle.msi_transform_laws.proofs.PremisesMetLemmas.{premises_can_be_met}
use Rattle.msi_transform_laws.proofs.premises_met.premises_can_be_met.Goals as goal

pub returns : goal.returns
returns c = premises_can_be_met
