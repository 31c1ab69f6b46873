use Rattle.msi_table_cells.proofs.StoredValuesLemmas.{removing_keeps}
use Rattle.msi_table_cells.proofs.laws.removing_keeps_values.Goals as goal

pub returns : goal.returns
returns c = removing_keeps c.given_back_takes_one.ensures
