use Rattle.msi_database_changes.proofs.soundness.LawLemmas.{counts_tell}
use Rattle.msi_database_changes.proofs.laws.counts_tell_texts.Goals as goal

pub returns : goal.returns
returns c = counts_tell
