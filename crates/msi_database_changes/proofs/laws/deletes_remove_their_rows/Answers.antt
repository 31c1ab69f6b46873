use Rattle.msi_database_changes.proofs.soundness.LawLemmas.{deletes_remove}
use Rattle.msi_database_changes.proofs.laws.deletes_remove_their_rows.Goals as goal

pub returns : goal.returns
returns c = deletes_remove c.taken_places_hold_their_text.ensures c.given_back_takes_one.ensures
