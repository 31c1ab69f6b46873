use Rattle.std.proofs.Common.{map, refl}
use Rattle.msi_replay.specs.Sent.{writer_call_sent}
use Rattle.msi_replay.specs.Told.{stream_answer, told}
use Rattle.msi_replay.proofs.StreamTakesLemmas.{write_refused, write_takes}
use Rattle.msi_replay.proofs.streaming.write_stream.Goals as goal

pub returns-in-Ok-clause-ok : goal.returns-in-Ok-clause-ok
returns-in-Ok-clause-ok c =
    rw (← c.as_str.ensures) (write_takes c.args.target.now _ c.as_str.result.now (map writer_call_sent c.args.steps) c.in-Ok.writer.now
    c.write_all.new.writer (map (told stream_answer) c.in_ok-answers-in-Ok.answers) c.in-Ok.ensures.accepted
    c.in-Ok.ensures.start c.in_ok-answers-in-Ok.ensures.ok refl)

pub returns-in-Ok-clause-fits : goal.returns-in-Ok-clause-fits
returns-in-Ok-clause-fits c = rw (← c.as_str.ensures) c.as_str.utf8

pub returns-clause-fits : goal.returns-clause-fits
returns-clause-fits c = rw (← c.as_str.ensures) c.as_str.utf8

pub returns-clause-ok : goal.returns-clause-ok
returns-clause-ok c =
    rw (← c.as_str.ensures) (write_refused c.args.target.now _ c.as_str.result.now (map writer_call_sent c.args.steps) _ c.in-Err.error c.kind.result
    c.in-Err.ensures.kind c.in-Err.ensures.early c.kind.ensures refl)
