use Rattle.msi_exchange.proofs.RowLawLemmas.{value_back}
use Rattle.msi_exchange.proofs.row_laws.json_stands_for_values.Goals as goal

pub returns : goal.returns
returns c = value_back
