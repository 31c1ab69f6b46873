use Rattle.msi.proofs.calls_in_turn.SessionLemmas as lemmas
use Rattle.msi.proofs.laws.images_mean.Goals as goal

pub returns : goal.returns
returns c = lemmas.images_mean
