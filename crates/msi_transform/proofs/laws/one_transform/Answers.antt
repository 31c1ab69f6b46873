use Rattle.msi_transform.proofs.TransformFileLemmas.{one_transform}
use Rattle.msi_transform.proofs.laws.one_transform.Goals as goal

pub returns : goal.returns
returns c = one_transform
