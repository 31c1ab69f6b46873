use Rattle.msi_pool_places.proofs.CountLemmas.{CountsFit-given_back}
use Rattle.msi_pool.proofs.laws.given_back_stays_in_range.Goals as goal

pub returns : goal.returns
returns c = CountsFit-given_back
