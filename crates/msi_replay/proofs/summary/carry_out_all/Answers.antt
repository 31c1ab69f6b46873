use Rattle.msi.specs.Lent.{FitsSummaryCall, summary_outcome, summary_wants_memory}
use Rattle.msi_replay.specs.Sent.{summary_call_sent}
use Rattle.msi_replay.specs.Told.{summary_answer}
use Rattle.msi_replay.proofs.RunningLemmas.{all_with, runs_with}
use Rattle.msi_replay.proofs.summary.carry_out_all.Goals as goal

pub loop-call-preserved : goal.loop-call-preserved
loop-call-preserved c = record {
  runs = rw c.in_ok-push.ensures.items (runs_with summary_outcome summary_wants_memory summary_call_sent summary_answer
      c.args.summary.now c.loop-call.summary c.carry_out.new.summary c.loop-call.yielded c.in-Some.call
      c.loop-call.answers.items c.in_ok-carry_out.field-0 c.loop-call.invariant.runs c.in_ok-carry_out.ensures.ok);
  fits = all_with FitsSummaryCall summary_call_sent c.loop-call.yielded c.in-Some.call c.loop-call.invariant.fits
      c.in_ok-carry_out.ensures.fits;
}
