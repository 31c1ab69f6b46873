use Rattle.msi_recode.proofs.OnceLemmas as lemmas
use Rattle.msi_recode.proofs.laws.summaries_mean_their_page.Goals as goal

pub returns : goal.returns
returns c = lemmas.summaries_mean
