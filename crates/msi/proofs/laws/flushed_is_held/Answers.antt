use Rattle.msi.proofs.calls_in_turn.SessionLemmas as lemmas
use Rattle.msi.proofs.laws.flushed_is_held.Goals as goal

pub returns : goal.returns
returns c = lemmas.flushed_is_held
