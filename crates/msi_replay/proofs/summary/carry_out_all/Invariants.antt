use Rattle.std.proofs.Common.{map}
use Rattle.std.specs.List.{AllByRecursion}
use Rattle.msi.specs.Lent.{FitsSummaryCall, RunsTo, summary_outcome, summary_wants_memory}
use Rattle.msi_replay.specs.Sent.{summary_call_sent}
use Rattle.msi_replay.specs.Told.{summary_answer, told}
use Rattle.msi_replay.proofs.summary.carry_out_all.Given as goal

abbrev pub invariant-loop-call : goal.invariant-loop-call
invariant-loop-call l = record {
  runs : RunsTo summary_outcome summary_wants_memory l.initial.summary (map summary_call_sent l.yielded)
      (map (told summary_answer) l.answers.items) l.summary;
  fits : AllByRecursion FitsSummaryCall (map summary_call_sent l.yielded);
}
