use Rattle.msi_pool.proofs.ReadStreamLemmas.{pool_in_steps}
use Rattle.msi_pool.proofs.laws.pool_in_steps.Goals as goal

pub returns : goal.returns
returns c = pool_in_steps
