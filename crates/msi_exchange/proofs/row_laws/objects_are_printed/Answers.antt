use Rattle.msi_exchange.proofs.RowLawLemmas.{object_printed}
use Rattle.msi_exchange.proofs.row_laws.objects_are_printed.Goals as goal

pub returns : goal.returns
returns c = object_printed
