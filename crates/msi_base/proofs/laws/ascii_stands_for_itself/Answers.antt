use Rattle.msi_base.proofs.PagesLemmas.{ascii_stands_for_itself}
use Rattle.msi_base.proofs.laws.ascii_stands_for_itself.Goals as goal

pub returns : goal.returns
returns c = ascii_stands_for_itself
