use Rattle.msi_recode.proofs.LawsLemmas as lemmas
use Rattle.msi_recode.proofs.laws.pools_stay_alike.Goals as goal

pub returns : goal.returns
returns c = lemmas.pools_stay_alike
