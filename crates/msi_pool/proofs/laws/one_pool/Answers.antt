use Rattle.msi_pool.proofs.ReadStreamLemmas.{one_pool}
use Rattle.msi_pool.proofs.laws.one_pool.Goals as goal

pub returns : goal.returns
returns c = one_pool
