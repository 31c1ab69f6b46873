use Rattle.msi_container_format.proofs.AcceptedNamesLemmas.{marked_is}
use Rattle.msi_container_format.proofs.streamname.is_marked.Goals as goal

pub returns : goal.returns
returns c = marked_is c.args.name.now c.starts_with.result c.utf8.name c.starts_with.ensures.cases
