use Rattle.msi_pool.proofs.PoolReadBackLemmas as laws
use Rattle.msi_pool.proofs.laws.pools_read_back.Goals as goal

pub returns : goal.returns
returns c = laws.pools_read_back
