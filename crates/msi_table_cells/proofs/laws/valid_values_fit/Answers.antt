use Rattle.msi_table_cells.proofs.StoredValuesLemmas.{valid_fits}
use Rattle.msi_table_cells.proofs.laws.valid_values_fit.Goals as goal

pub returns : goal.returns
returns c = valid_fits c.taken_places_hold_their_text.ensures
