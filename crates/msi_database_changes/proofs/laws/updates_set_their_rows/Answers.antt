use Rattle.msi_database_changes.proofs.soundness.LawLemmas.{updates_set}
use Rattle.msi_database_changes.proofs.laws.updates_set_their_rows.Goals as goal

pub returns : goal.returns
returns c = updates_set c.taken_places_hold_their_text.ensures c.given_back_takes_one.ensures
