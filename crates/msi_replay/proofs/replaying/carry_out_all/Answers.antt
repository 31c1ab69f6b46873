use Rattle.msi.specs.Runs.{FitsCall}
use Rattle.msi_replay.specs.Sent.{call_sent}
use Rattle.msi_replay.specs.Taken.{session_at}
use Rattle.msi_replay.specs.Told.{answer_told}
use Rattle.msi_replay.proofs.RunLemmas.{run_with}
use Rattle.msi_replay.proofs.RunningLemmas.{all_with}
use Rattle.msi_replay.proofs.replaying.carry_out_all.Goals as goal

pub loop-call-preserved : goal.loop-call-preserved
loop-call-preserved c = record {
  run = rw c.in_ok-push.ensures.items (run_with call_sent answer_told (session_at c.args.target.now) (session_at c.loop-call.target)
      (session_at c.carry_out.new.target) c.loop-call.yielded c.in-Some.call c.loop-call.answers.items
      c.in_ok-carry_out.field-0 c.loop-call.invariant.run c.in_ok-carry_out.ensures.step);
  fits = all_with FitsCall call_sent c.loop-call.yielded c.in-Some.call c.loop-call.invariant.fits c.in_ok-carry_out.ensures.fits;
  tells = c.in_ok-carry_out.ensures.tells;
}
