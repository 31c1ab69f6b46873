use Rattle.msi_database.proofs.opening.FreshLemmas.{fresh_is_kept}
use Rattle.msi_database.proofs.laws.fresh_is_kept.Goals as goal

pub returns : goal.returns
returns c = fresh_is_kept
