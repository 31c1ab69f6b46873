use Rattle.msi.proofs.calls_in_turn.ReplayLemmas as lemmas
use Rattle.msi.proofs.laws.replays_mean.Goals as goal

pub returns : goal.returns
returns c = lemmas.replays_mean
