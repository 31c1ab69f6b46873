use Rattle.msi_exchange.proofs.RowLawLemmas.{field_back}
use Rattle.msi_exchange.proofs.row_laws.fields_stand_for_values.Goals as goal

pub returns : goal.returns
returns c = field_back
