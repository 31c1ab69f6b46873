use Rattle.msi.proofs.calls_in_turn.LawLemmas as lemmas
use Rattle.msi.proofs.laws.passing_means.Goals as goal

pub returns : goal.returns
returns c = lemmas.passing_means
