use Rattle.msi_container_format.proofs.StreamsLemmas.{put_back_same}
use Rattle.msi_container_format.proofs.laws.put_back_undoes_replace.Goals as goal

pub returns : goal.returns
returns c = put_back_same
