use Rattle.msi_transform_laws.proofs.MoreConditionsLemmas.{more_conditions_leave_the_same}
use Rattle.msi_transform_laws.proofs.more_conditions.more_conditions_leave_the_same.Goals as goal

pub returns : goal.returns
returns c = more_conditions_leave_the_same
