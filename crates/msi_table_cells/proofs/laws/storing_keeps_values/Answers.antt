use Rattle.msi_table_cells.proofs.StoredValuesLemmas.{storing_keeps}
use Rattle.msi_table_cells.proofs.laws.storing_keeps_values.Goals as goal

pub returns : goal.returns
returns c = storing_keeps c.taken_places_hold_their_text.ensures
