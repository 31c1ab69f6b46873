use Rattle.msi.proofs.calls_in_turn.LawLemmas as lemmas
use Rattle.msi.proofs.laws.steps_are_fixed.Goals as goal

pub returns : goal.returns
returns c = lemmas.steps_are_fixed
