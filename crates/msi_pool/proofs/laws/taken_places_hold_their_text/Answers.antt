use Rattle.msi_pool_places.proofs.TakenLemmas.{taken_takes}
use Rattle.msi_pool.proofs.laws.taken_places_hold_their_text.Goals as goal

pub returns : goal.returns
returns c = taken_takes
