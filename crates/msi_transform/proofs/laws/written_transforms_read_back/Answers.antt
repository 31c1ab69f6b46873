use Rattle.msi_transform.proofs.ReadBackLemmas.{written_transforms_read_back}
use Rattle.msi_transform.proofs.laws.written_transforms_read_back.Goals as goal

pub returns : goal.returns
returns c = written_transforms_read_back
