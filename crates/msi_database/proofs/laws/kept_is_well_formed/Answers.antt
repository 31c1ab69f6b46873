use Rattle.msi_database.proofs.keeping.KeptLawLemmas.{kept_is_well_formed}
use Rattle.msi_database.proofs.laws.kept_is_well_formed.Goals as goal

pub returns : goal.returns
returns c = kept_is_well_formed
