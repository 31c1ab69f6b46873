use Rattle.std.proofs.Common.{sym, ◌∙◌}
use Rattle.msi_transform_records.proofs.LeadingLemmas.{passed, walked_all, walked_on}
use Rattle.msi_transform_records.proofs.reading.count_records.Goals as goal

pub loop-rest-smaller : goal.loop-rest-smaller
loop-rest-smaller c = (passed c.args.shapes.now c.args.pool.now c.loop-rest.rest.now c.in-Ok.after.now c.in-Ok.ensures).less

pub loop-rest-preserved : goal.loop-rest-preserved
loop-rest-preserved c = walked_on c.args.shapes.now c.args.pool.now c.args.bytes.now c.loop-rest.count c.loop-rest.rest.now c.in-Ok.after.now c.loop-rest.invariant
    (passed c.args.shapes.now c.args.pool.now c.loop-rest.rest.now c.in-Ok.after.now c.in-Ok.ensures)

pub returns-clause-ok : goal.returns-clause-ok
returns-clause-ok c = walked_all c.args.shapes.now c.args.pool.now c.args.bytes.now c.loop-rest.count c.loop-rest.rest.now c.loop-rest.invariant
    (sym c.is_empty.ensures ∙ c.loop-rest-test.false)
