use Rattle.msi_container_format.proofs.AcceptedNamesLemmas.{accepted_is, accepted_fits}
use Rattle.msi_container_format.proofs.UnpackingLemmas.{name_back}
use Rattle.msi_container_format.proofs.laws.accepted_names_come_back.Goals as goal

pub returns : goal.returns
returns c = λ is_table cs h. let name = accepted_is is_table cs h in (name_back is_table cs name.unmarked name.allowed, accepted_fits is_table cs h)
