use Rattle.msi_database_changes.proofs.describing.SchemaKeptLemmas.{dropped_forgotten}
use Rattle.msi_database_changes.proofs.laws.dropped_tables_are_forgotten.Goals as goal

pub returns : goal.returns
returns c = dropped_forgotten c.taken_places_hold_their_text.ensures c.given_back_takes_one.ensures
