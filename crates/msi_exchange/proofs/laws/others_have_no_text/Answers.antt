use Rattle.msi_exchange.proofs.WritableLemmas.{means_writable}
use Rattle.msi_exchange.proofs.laws.others_have_no_text.Goals as goal

pub returns : goal.returns
returns c = λ text archive m. means_writable text archive m
