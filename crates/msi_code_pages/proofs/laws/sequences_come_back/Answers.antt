use Rattle.msi_code_pages.proofs.LawsLemmas.{sequences_come_back}
use Rattle.msi_code_pages.proofs.laws.sequences_come_back.Goals as goal

pub returns : goal.returns
returns c = sequences_come_back
