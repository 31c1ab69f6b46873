use Rattle.msi_replay.proofs.StreamLemmas.{seek_answers}
use Rattle.msi_replay.proofs.stream.seek_writer.Goals as goal

pub returns : goal.returns
returns c = seek_answers c.args.writer.now c.seek.new.self c.args.to _ _ c.place.ensures c.seek.ensures.outcome
