use Rattle.msi_transform_laws.proofs.TableFollowLemmas.{records_can_follow}
use Rattle.msi_transform_laws.proofs.can_follow.records_can_follow.Goals as goal

pub returns : goal.returns
returns c = records_can_follow
