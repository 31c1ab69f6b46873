use Rattle.msi.proofs.calls_in_turn.ReplayLemmas as lemmas
use Rattle.msi.proofs.laws.created_is_session.Goals as goal

pub returns : goal.returns
returns c = lemmas.created_is_session
