use Rattle.msi_database_changes.proofs.soundness.LawLemmas.{inserts_add}
use Rattle.msi_database_changes.proofs.laws.inserts_add_their_rows.Goals as goal

pub returns : goal.returns
returns c = inserts_add c.taken_places_hold_their_text.ensures c.given_back_takes_one.ensures
