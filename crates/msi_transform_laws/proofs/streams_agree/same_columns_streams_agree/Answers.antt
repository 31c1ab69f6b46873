use Rattle.msi_transform_laws.proofs.MadeStreamsLemmas.{same_columns_streams_agree}
use Rattle.msi_transform_laws.proofs.streams_agree.same_columns_streams_agree.Goals as goal

pub returns : goal.returns
returns c = same_columns_streams_agree c.taken_places_hold_their_text.ensures c.given_back_takes_one.ensures
