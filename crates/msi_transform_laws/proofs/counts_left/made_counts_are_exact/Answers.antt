use Rattle.msi_transform_laws.proofs.CountsLeftLemmas.{made_counts_are_exact}
use Rattle.msi_transform_laws.proofs.counts_left.made_counts_are_exact.Goals as goal

pub returns : goal.returns
returns c = made_counts_are_exact c.taken_places_hold_their_text.ensures c.given_back_takes_one.ensures
