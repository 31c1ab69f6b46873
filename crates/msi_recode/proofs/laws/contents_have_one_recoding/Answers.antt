use Rattle.msi_recode.proofs.OnceLemmas as lemmas
use Rattle.msi_recode.proofs.laws.contents_have_one_recoding.Goals as goal

pub returns : goal.returns
returns c = lemmas.recoded_once
