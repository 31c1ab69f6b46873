use Rattle.msi_database_changes.proofs.soundness.LawLemmas.{table_changes_keep}
use Rattle.msi_database_changes.proofs.laws.table_changes_keep_databases_sound.Goals as goal

pub returns : goal.returns
returns c = table_changes_keep c.taken_places_hold_their_text.ensures c.given_back_takes_one.ensures
