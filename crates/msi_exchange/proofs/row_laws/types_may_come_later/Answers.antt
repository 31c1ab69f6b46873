use Rattle.msi_exchange.proofs.TableLemmas.{typed_later}
use Rattle.msi_exchange.proofs.row_laws.types_may_come_later.Goals as goal

pub returns : goal.returns
returns c = typed_later
