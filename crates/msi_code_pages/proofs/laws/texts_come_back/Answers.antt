use Rattle.msi_code_pages.proofs.LawsLemmas.{texts_come_back}
use Rattle.msi_code_pages.proofs.laws.texts_come_back.Goals as goal

pub returns : goal.returns
returns c = texts_come_back
