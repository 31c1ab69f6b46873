use Rattle.msi_database_changes.proofs.text_counts.RecountingLemmas.{recounts_make_exact}
use Rattle.msi_database_changes.proofs.laws.recounts_make_counts_exact.Goals as goal

pub returns : goal.returns
returns c = recounts_make_exact
