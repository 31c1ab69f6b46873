use Rattle.msi_recode.proofs.SummaryAlikeLemmas as lemmas
use Rattle.msi_recode.proofs.laws.summaries_stay_alike.Goals as goal

pub returns : goal.returns
returns c = lemmas.summaries_stay_alike
