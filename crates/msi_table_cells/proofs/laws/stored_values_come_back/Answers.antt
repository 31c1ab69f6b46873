use Rattle.msi_table_cells.proofs.StoredValuesLemmas.{values_back}
use Rattle.msi_table_cells.proofs.laws.stored_values_come_back.Goals as goal

pub returns : goal.returns
returns c = values_back c.taken_places_hold_their_text.ensures
