use Rattle.msi_transform_laws.proofs.TablesRemovedLemmas.{removing_records_are_applied}
use Rattle.msi_transform_laws.proofs.tables_removed.removing_records_are_applied.Goals as goal

pub returns : goal.returns
returns c = removing_records_are_applied c.taken_places_hold_their_text.ensures c.given_back_takes_one.ensures
