use Rattle.msi_replay.proofs.PackageLemmas as lemmas
use Rattle.msi_replay.proofs.laws.packages_stay_alike.Goals as goal

pub returns : goal.returns
returns c = lemmas.packages_stay_alike
