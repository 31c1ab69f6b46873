use Rattle.msi_transform_laws.proofs.TableAppliedLemmas.{made_records_give_new_rows}
use Rattle.msi_transform_laws.proofs.table_applied.made_records_give_new_rows.Goals as goal

pub returns : goal.returns
returns c = made_records_give_new_rows c.taken_places_hold_their_text.ensures c.given_back_takes_one.ensures
