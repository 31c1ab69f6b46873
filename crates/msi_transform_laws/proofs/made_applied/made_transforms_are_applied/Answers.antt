use Rattle.msi_transform_laws.proofs.MadeAppliedLemmas.{made_transforms_are_applied}
use Rattle.msi_transform_laws.proofs.made_applied.made_transforms_are_applied.Goals as goal

pub returns : goal.returns
returns c = made_transforms_are_applied c.taken_places_hold_their_text.ensures c.given_back_takes_one.ensures
