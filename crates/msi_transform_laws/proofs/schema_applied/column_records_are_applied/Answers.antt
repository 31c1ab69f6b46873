use Rattle.msi_transform_laws.proofs.SchemaAppliedLemmas.{column_records_are_applied}
use Rattle.msi_transform_laws.proofs.schema_applied.column_records_are_applied.Goals as goal

pub returns : goal.returns
returns c = column_records_are_applied c.taken_places_hold_their_text.ensures c.given_back_takes_one.ensures
