use Rattle.std.proofs.Common.{map}
use Rattle.msi.specs.Lent.{RunsTo, reader_outcome, reader_wants_memory}
use Rattle.msi_replay.specs.Sent.{lent_cursor, reader_call_sent}
use Rattle.msi_replay.specs.Told.{stream_answer, told}
use Rattle.msi_replay.proofs.stream.read_all.Given as goal

abbrev pub invariant-loop-call : goal.invariant-loop-call
invariant-loop-call l = RunsTo reader_outcome reader_wants_memory (lent_cursor l.initial.reader)
    (map reader_call_sent l.yielded) (map (told stream_answer) l.answers.items) (lent_cursor l.reader)
