use Rattle.msi_database.proofs.keeping.KeepingLemmas.{changes_are_kept}
use Rattle.msi_database.proofs.laws.changes_are_kept.Goals as goal

pub returns : goal.returns
returns c = changes_are_kept
