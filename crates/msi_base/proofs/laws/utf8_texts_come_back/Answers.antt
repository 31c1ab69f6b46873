use Rattle.msi_base.proofs.PagesLemmas.{utf8_texts_come_back}
use Rattle.msi_base.proofs.laws.utf8_texts_come_back.Goals as goal

pub returns : goal.returns
returns c = utf8_texts_come_back
