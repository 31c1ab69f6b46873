use Rattle.msi.specs.Lent.{summary_outcome, summary_wants_memory}
use Rattle.msi.specs.Calls as calls
use Rattle.msi_replay.specs.Told.{summary_answer}
use Rattle.msi_replay.proofs.RunningLemmas.{runs_with}
use Rattle.msi_replay.proofs.summary.ask_all.Goals as goal

pub loop-question-preserved : goal.loop-question-preserved
loop-question-preserved c =
    rw c.in_ok-push.ensures.items (runs_with summary_outcome summary_wants_memory calls.ask summary_answer
    c.args.summary.now c.args.summary.now c.args.summary.now c.loop-question.yielded c.in-Some.question
    c.loop-question.answers.items c.in_ok-ask.field-0 c.loop-question.invariant c.in_ok-ask.ensures.ok)
