use Rattle.msi_database_changes.proofs.describing.SchemaKeptLemmas.{added_described}
use Rattle.msi_database_changes.proofs.laws.added_columns_are_described.Goals as goal

pub returns : goal.returns
returns c = added_described c.taken_places_hold_their_text.ensures c.given_back_takes_one.ensures
