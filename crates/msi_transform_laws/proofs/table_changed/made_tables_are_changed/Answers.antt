use Rattle.msi_transform_laws.proofs.TableChangedLemmas.{made_tables_are_changed}
use Rattle.msi_transform_laws.proofs.table_changed.made_tables_are_changed.Goals as goal

pub returns : goal.returns
returns c = made_tables_are_changed c.taken_places_hold_their_text.ensures c.given_back_takes_one.ensures
