use Rattle.msi.proofs.reading.OpeningLemmas as lemmas
use Rattle.msi.proofs.laws.bytes_mean_one.Goals as goal

pub returns : goal.returns
returns c = lemmas.bytes_mean_one
