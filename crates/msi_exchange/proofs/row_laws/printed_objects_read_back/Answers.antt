use Rattle.msi_exchange.proofs.TableLemmas.{object_back}
use Rattle.msi_exchange.proofs.row_laws.printed_objects_read_back.Goals as goal

pub returns : goal.returns
returns c = object_back
