use Rattle.msi_transform_laws.proofs.TransformsAppliedLemmas.{made_transforms_give_new_package}
use Rattle.msi_transform_laws.proofs.transforms_applied.made_transforms_give_new_package.Goals as goal

pub returns : goal.returns
returns c = made_transforms_give_new_package c.taken_places_hold_their_text.ensures c.given_back_takes_one.ensures
