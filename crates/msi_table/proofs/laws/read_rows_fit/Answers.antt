use Rattle.msi_table.proofs.ReadRowsLemmas.{read_fits}
use Rattle.msi_table.proofs.laws.read_rows_fit.Goals as goal

pub returns : goal.returns
returns c = read_fits
