use Rattle.msi_base.proofs.PagesLemmas.{bytes_come_back}
use Rattle.msi_base.proofs.laws.page_bytes_come_back.Goals as goal

pub returns : goal.returns
returns c = bytes_come_back
