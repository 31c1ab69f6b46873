use Rattle.msi.proofs.calls_in_turn.RunLemmas.{steps_keep}
use Rattle.msi.proofs.laws.steps_keep_packages.Goals as goal

pub returns : goal.returns
returns c = steps_keep
