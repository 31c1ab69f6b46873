use Rattle.msi_pool.proofs.ForgottenLemmas.{empty_places}
use Rattle.msi_pool.proofs.laws.empty_places_are_written.Goals as goal

pub returns : goal.returns
returns c = empty_places
