use Rattle.std.proofs.Common.{map}
use Rattle.std.specs.List.{AllByRecursion}
use Rattle.msi.specs.Lent.{FitsSummaryCall}
use Rattle.msi_replay.specs.Sent.{summary_call_sent}
use Rattle.msi_replay.proofs.summary.discard_all.Given as goal

abbrev pub invariant-loop-call : goal.invariant-loop-call
invariant-loop-call l = AllByRecursion FitsSummaryCall (map summary_call_sent l.yielded)
