use Rattle.msi_transform_laws.proofs.WithoutRecordsLemmas.{tables_without_records_stay}
use Rattle.msi_transform_laws.proofs.tables_without_records.tables_without_records_stay.Goals as goal

pub returns : goal.returns
returns c = tables_without_records_stay
