use Rattle.msi_exchange.proofs.TableLemmas.{table_back}
use Rattle.msi_exchange.proofs.row_laws.tables_read_back.Goals as goal

pub returns : goal.returns
returns c = table_back
