use Rattle.msi_database.proofs.keeping.KeptLawLemmas.{read_is_kept}
use Rattle.msi_database.proofs.laws.read_is_kept.Goals as goal

pub returns : goal.returns
returns c = read_is_kept
