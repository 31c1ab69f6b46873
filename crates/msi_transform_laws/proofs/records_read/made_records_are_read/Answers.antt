use Rattle.msi_transform_laws.proofs.MadeRecordsLemmas.{made_records_are_read}
use Rattle.msi_transform_laws.proofs.records_read.made_records_are_read.Goals as goal

pub returns : goal.returns
returns c = made_records_are_read
