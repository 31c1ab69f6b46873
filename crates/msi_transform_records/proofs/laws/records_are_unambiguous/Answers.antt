use Rattle.msi_transform_records.proofs.ReadBackLemmas.{records_are_unambiguous}
use Rattle.msi_transform_records.proofs.laws.records_are_unambiguous.Goals as goal

pub returns : goal.returns
returns c = records_are_unambiguous
