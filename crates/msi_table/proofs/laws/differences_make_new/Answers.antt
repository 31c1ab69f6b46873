use Rattle.msi_table.proofs.AppliedLemmas.{made_new}
use Rattle.msi_table.proofs.laws.differences_make_new.Goals as goal

pub returns : goal.returns
returns c = made_new
