use Rattle.msi_exchange.proofs.MeaningLemmas.{one_archive}
use Rattle.msi_exchange.proofs.laws.one_archive.Goals as goal

pub returns : goal.returns
returns c = λ text a b m n. one_archive text a b m n
