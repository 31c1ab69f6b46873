use Rattle.msi_exchange.proofs.RowLawLemmas.{lines_back}
use Rattle.msi_exchange.proofs.row_laws.lines_read_back.Goals as goal

pub returns : goal.returns
returns c = lines_back
