use Rattle.msi.proofs.reading.OpenedLemmas as lemmas
use Rattle.msi.proofs.laws.opened_is_session.Goals as goal

pub returns : goal.returns
returns c = lemmas.opened_is_session
