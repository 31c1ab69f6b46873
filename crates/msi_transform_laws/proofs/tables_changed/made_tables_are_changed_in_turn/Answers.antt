use Rattle.msi_transform_laws.proofs.TablesChangedLemmas.{made_tables_are_changed_in_turn}
use Rattle.msi_transform_laws.proofs.tables_changed.made_tables_are_changed_in_turn.Goals as goal

pub returns : goal.returns
returns c = made_tables_are_changed_in_turn c.taken_places_hold_their_text.ensures c.given_back_takes_one.ensures
