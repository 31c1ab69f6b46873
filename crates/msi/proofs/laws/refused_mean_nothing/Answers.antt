use Rattle.msi.proofs.reading.OpeningLemmas as lemmas
use Rattle.msi.proofs.laws.refused_mean_nothing.Goals as goal

pub returns : goal.returns
returns c = lemmas.refused_mean_nothing
