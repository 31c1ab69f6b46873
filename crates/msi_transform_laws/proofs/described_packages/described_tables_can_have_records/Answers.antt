use Rattle.msi_transform_laws.proofs.DescribedPackagesLemmas.{described_tables_can_have_records}
use Rattle.msi_transform_laws.proofs.described_packages.described_tables_can_have_records.Goals as goal

pub returns : goal.returns
returns c = described_tables_can_have_records
