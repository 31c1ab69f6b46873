use Rattle.msi_summary_properties.proofs.ReadBackLemmas.{only_one_set}
use Rattle.msi_summary_properties.proofs.laws.one_set.Goals as goal

pub returns : goal.returns
returns c = only_one_set
