use Rattle.msi.specs.Lent.{FitsSummaryCall}
use Rattle.msi_replay.specs.Sent.{summary_call_sent}
use Rattle.msi_replay.proofs.RunningLemmas.{all_with}
use Rattle.msi_replay.proofs.summary.discard_all.Goals as goal

pub loop-call-preserved : goal.loop-call-preserved
loop-call-preserved c =
    all_with FitsSummaryCall summary_call_sent c.loop-call.yielded c.in-Some.call c.loop-call.invariant c.discard.ensures
