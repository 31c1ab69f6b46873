use Rattle.msi_transform_laws.proofs.FollowingRecordsLemmas.{differences_can_follow}
use Rattle.msi_transform_laws.proofs.can_follow.differences_can_follow.Goals as goal

pub returns : goal.returns
returns c = differences_can_follow
