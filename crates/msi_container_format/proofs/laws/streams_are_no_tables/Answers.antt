use Rattle.std.proofs.Common.{false}
use Rattle.msi_container_format.proofs.AcceptedNamesLemmas.{accepted_is}
use Rattle.msi_container_format.proofs.SpecialNamesLemmas.{stream≢table}
use Rattle.msi_container_format.proofs.laws.streams_are_no_tables.Goals as goal

pub returns : goal.returns
returns c = λ cs ds h. stream≢table cs ds (accepted_is false cs h).unmarked
