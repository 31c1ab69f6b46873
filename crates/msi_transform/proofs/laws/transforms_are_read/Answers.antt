use Rattle.msi_transform.proofs.TransformFileLemmas.{transforms_are_read}
use Rattle.msi_transform.proofs.laws.transforms_are_read.Goals as goal

pub returns : goal.returns
returns c = transforms_are_read
