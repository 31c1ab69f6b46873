use Rattle.msi_database.proofs.keeping.RecountingLemmas.{recounts_are_kept}
use Rattle.msi_database.proofs.laws.recounts_are_kept.Goals as goal

pub returns : goal.returns
returns c = recounts_are_kept
