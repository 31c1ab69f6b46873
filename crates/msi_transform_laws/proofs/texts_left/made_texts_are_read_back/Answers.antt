use Rattle.msi_transform_laws.proofs.TextsLeftLemmas.{made_texts_are_read_back}
use Rattle.msi_transform_laws.proofs.texts_left.made_texts_are_read_back.Goals as goal

pub returns : goal.returns
returns c = made_texts_are_read_back c.taken_places_hold_their_text.ensures c.given_back_takes_one.ensures
