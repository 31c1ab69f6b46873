use Rattle.msi_transform_laws.proofs.SamePackagesLemmas.{same_packages_have_no_records}
use Rattle.msi_transform_laws.proofs.same_packages.same_packages_have_no_records.Goals as goal

pub returns : goal.returns
returns c = same_packages_have_no_records
