use Rattle.msi_transform_laws.proofs.SchemaMadeLemmas.{made_schema_is_new}
use Rattle.msi_transform_laws.proofs.schema_made.made_schema_is_new.Goals as goal

pub returns : goal.returns
returns c = made_schema_is_new c.taken_places_hold_their_text.ensures c.given_back_takes_one.ensures
