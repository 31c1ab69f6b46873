use Rattle.msi_pool.proofs.ForgottenLemmas.{marks_stand}
use Rattle.msi_pool.proofs.laws.marks_stand_for_tests.Goals as goal

pub returns : goal.returns
returns c = marks_stand
