use Rattle.msi_recode.proofs.SummaryOneLemmas as lemmas
use Rattle.msi_recode.proofs.laws.bytes_have_one_summary.Goals as goal

pub returns : goal.returns
returns c = lemmas.one_summary
