use Rattle.msi.proofs.calls_in_turn.SessionLemmas as lemmas
use Rattle.msi.proofs.laws.runs_keep_sessions.Goals as goal

pub returns : goal.returns
returns c = lemmas.runs_keep_sessions
