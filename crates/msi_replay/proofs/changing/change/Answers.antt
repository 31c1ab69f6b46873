use Rattle.msi_replay.proofs.TakenLemmas.{takes_as}
use Rattle.msi_replay.proofs.changing.change.Goals as goal

pub returns : goal.returns
returns c = takes_as _ _ _ _ _ c.done.ensures c.changed.ensures
