use Rattle.msi_pool_places.proofs.CountLemmas.{taken_in_range}
use Rattle.msi_pool.proofs.laws.taken_places_stay_in_range.Goals as goal

pub returns : goal.returns
returns c = taken_in_range
