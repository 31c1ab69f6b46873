use Rattle.msi_exchange.proofs.RowLawLemmas.{row_printed}
use Rattle.msi_exchange.proofs.row_laws.rows_are_printed.Goals as goal

pub returns : goal.returns
returns c = row_printed
