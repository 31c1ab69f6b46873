use Rattle.msi_summary_properties.proofs.ReadBackLemmas as laws
use Rattle.msi_summary_properties.proofs.laws.sets_read_back.Goals as goal

pub returns : goal.returns
returns c = laws.sets_read_back
