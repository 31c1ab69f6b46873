use Rattle.msi_transform_laws.proofs.StoredRecordsLemmas.{stored_records_are_read}
use Rattle.msi_transform_laws.proofs.records_read.stored_records_are_read.Goals as goal

pub returns : goal.returns
returns c = stored_records_are_read
