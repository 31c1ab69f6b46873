use Rattle.msi_replay.proofs.TransformedLemmas.{transform_done, transform_refused}
use Rattle.msi_replay.proofs.changing.transformed.Goals as goal

pub returns-in-Ok : goal.returns-in-Ok
returns-in-Ok c =
    transform_done c.args.target.now c.apply_transform.new.self c.args.transform.now c.args.passing c.in-Ok.ensures.ok c.in-Ok.ensures.kept

pub returns-in-Err : goal.returns-in-Err
returns-in-Err c =
    transform_refused c.args.target.now c.apply_transform.new.self c.args.transform.now c.args.passing c.in-Err.refusal c.into_error.result
    c.into_error.ensures c.in-Err.ensures.same c.in-Err.ensures.kind
