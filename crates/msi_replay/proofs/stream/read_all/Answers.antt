use Rattle.std.proofs.Common.{inl}
use Rattle.msi.specs.Lent.{reader_outcome, reader_wants_memory}
use Rattle.msi_replay.specs.Sent.{lent_cursor, reader_call_sent}
use Rattle.msi_replay.specs.Told.{stream_answer}
use Rattle.msi_replay.proofs.RunningLemmas.{runs_with}
use Rattle.msi_replay.proofs.stream.read_all.Goals as goal

pub loop-call-preserved : goal.loop-call-preserved
loop-call-preserved c =
    rw c.in_ok-push.ensures.items (runs_with reader_outcome reader_wants_memory reader_call_sent stream_answer
    (lent_cursor c.args.reader.now) (lent_cursor c.loop-call.reader) (lent_cursor c.carry_out_on_reader.new.reader)
    c.loop-call.yielded c.in-Some.call c.loop-call.answers.items c.in_ok-carry_out_on_reader.field-0 c.loop-call.invariant
    (inl c.in_ok-carry_out_on_reader.ensures.ok))
