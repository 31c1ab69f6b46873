use Rattle.msi_transform_records.proofs.ReadBackLemmas.{spelled_records_are_read}
use Rattle.msi_transform_records.proofs.laws.spelled_records_are_read.Goals as goal

pub returns : goal.returns
returns c = spelled_records_are_read
