use Rattle.msi.proofs.calls_in_turn.RunLemmas.{runs_keep}
use Rattle.msi.proofs.laws.runs_keep_packages.Goals as goal

pub returns : goal.returns
returns c = runs_keep
