use Rattle.msi.proofs.packages.RecountingLemmas.{recounts_make_exact}
use Rattle.msi.proofs.laws.recounts_make_exact.Goals as goal

pub returns : goal.returns
returns c = recounts_make_exact
