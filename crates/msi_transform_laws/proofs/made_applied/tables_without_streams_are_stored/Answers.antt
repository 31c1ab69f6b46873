use Rattle.msi_transform_laws.proofs.MadeAppliedLemmas.{tables_without_streams_are_stored}
use Rattle.msi_transform_laws.proofs.made_applied.tables_without_streams_are_stored.Goals as goal

pub returns : goal.returns
returns c = tables_without_streams_are_stored
