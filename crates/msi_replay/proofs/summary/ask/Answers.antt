use Rattle.msi_replay.proofs.SummaryLemmas.{said_gives}
use Rattle.msi_replay.proofs.summary.ask.Goals as goal

pub returns-clause-ok : goal.returns-clause-ok
returns-clause-ok c = said_gives c.args.summary.now c.args.question c.said.result c.said.ensures.ok c.said.ensures.refused
