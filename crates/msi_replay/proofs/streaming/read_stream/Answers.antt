use Rattle.std.proofs.Common.{map}
use Rattle.msi_replay.specs.Sent.{reader_call_sent}
use Rattle.msi_replay.specs.Told.{stream_answer, told}
use Rattle.msi_replay.proofs.StreamTakesLemmas.{read_takes}
use Rattle.msi_replay.proofs.streaming.read_stream.Goals as goal

pub returns-in-Ok-clause-ok : goal.returns-in-Ok-clause-ok
returns-in-Ok-clause-ok c =
    rw (← c.as_str.ensures) (read_takes c.args.target.now c.as_str.result.now (map reader_call_sent c.args.steps) c.in-Ok.reader
    c.read_all.new.reader (map (told stream_answer) c.in_ok-answers-in-Ok.answers) c.in-Ok.ensures.accepted
    c.in-Ok.ensures.start c.in_ok-answers-in-Ok.ensures.ok)
