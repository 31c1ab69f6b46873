use Rattle.msi_database_changes.proofs.soundness.LawLemmas.{added_null}
use Rattle.msi_database_changes.proofs.laws.added_columns_are_null.Goals as goal

pub returns : goal.returns
returns c = added_null c.taken_places_hold_their_text.ensures c.given_back_takes_one.ensures
