use Rattle.msi.proofs.reading.OpenedAgainLemmas as lemmas
use Rattle.msi.proofs.laws.created_are_opened.Goals as goal

pub returns : goal.returns
returns c = lemmas.created_are_opened
