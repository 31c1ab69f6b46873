use Rattle.msi_replay.proofs.TakenLemmas.{select_refused}
use Rattle.msi_replay.proofs.looking.select.Goals as goal

pub returns-in-Err-clause-ok : goal.returns-in-Err-clause-ok
returns-in-Err-clause-ok c = select_refused _ c.args.target.now c.args.query c.in-Err.error c.kind.result c.in-Err.ensures.kind c.in-Err.ensures.early c.kind.ensures
