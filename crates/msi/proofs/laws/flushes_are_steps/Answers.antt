use Rattle.msi.proofs.calls_in_turn.FlushAmongLemmas as lemmas
use Rattle.msi.proofs.laws.flushes_are_steps.Goals as goal

pub returns : goal.returns
returns c = lemmas.flushes_are_steps
