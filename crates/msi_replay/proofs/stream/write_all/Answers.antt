use Rattle.msi.specs.Lent.{writer_outcome, writer_wants_memory}
use Rattle.msi_replay.specs.Sent.{lent_cursor, writer_call_sent}
use Rattle.msi_replay.specs.Told.{stream_answer}
use Rattle.msi_replay.proofs.RunningLemmas.{runs_with}
use Rattle.msi_replay.proofs.stream.write_all.Goals as goal

pub loop-call-preserved : goal.loop-call-preserved
loop-call-preserved c =
    rw c.in_ok-push.ensures.items (runs_with writer_outcome writer_wants_memory writer_call_sent stream_answer
    (lent_cursor c.args.writer.now) (lent_cursor c.loop-call.writer) (lent_cursor c.carry_out_on_writer.new.writer)
    c.loop-call.yielded c.in-Some.call c.loop-call.answers.items c.carry_out_on_writer.result c.loop-call.invariant
    c.carry_out_on_writer.ensures)
