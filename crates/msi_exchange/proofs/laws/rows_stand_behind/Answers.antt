use Rattle.msi_exchange.proofs.WrittenLemmas.{rows_behind}
use Rattle.msi_exchange.proofs.laws.rows_stand_behind.Goals as goal

pub returns : goal.returns
returns c = λ archive. rows_behind archive
