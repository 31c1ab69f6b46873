use Rattle.msi_exchange.proofs.RowLawLemmas.{row_back}
use Rattle.msi_exchange.proofs.row_laws.printed_rows_read_back.Goals as goal

pub returns : goal.returns
returns c = row_back
