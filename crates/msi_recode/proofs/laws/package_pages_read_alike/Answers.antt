use Rattle.msi_recode.proofs.PagesAlikeLemmas as lemmas
use Rattle.msi_recode.proofs.laws.package_pages_read_alike.Goals as goal

pub returns : goal.returns
returns c = lemmas.pages_read_alike
