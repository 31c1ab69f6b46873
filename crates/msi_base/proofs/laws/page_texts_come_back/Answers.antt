use Rattle.msi_base.proofs.PagesLemmas.{texts_come_back}
use Rattle.msi_base.proofs.laws.page_texts_come_back.Goals as goal

pub returns : goal.returns
returns c = texts_come_back
