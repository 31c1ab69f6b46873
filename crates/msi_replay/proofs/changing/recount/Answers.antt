use Rattle.msi_replay.proofs.RecountingLemmas.{recount_done, recount_refused}
use Rattle.msi_replay.proofs.changing.recount.Goals as goal

pub returns-in-Ok : goal.returns-in-Ok
returns-in-Ok c = recount_done c.args.target.now c.recount.new.self c.in-Ok.changed c.in-Ok.ensures.ok c.in-Ok.ensures.left

pub returns-in-Err : goal.returns-in-Err
returns-in-Err c = recount_refused c.args.target.now c.recount.new.self _ c.in-Err.error c.kind.result c.kind.ensures c.in-Err.ensures.same c.in-Err.ensures.kind
    c.in-Err.ensures.early
