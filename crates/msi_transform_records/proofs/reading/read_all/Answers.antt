use Rattle.std.proofs.Common.{◌≡◌, ◌+◌, sym, subst, arith}
use Rattle.std.proofs.lemmas.Result.{err_from_is_err_and}
use Rattle.msi_transform_records.proofs.LeadingLemmas.{Gathered, counted, gathered_all, gathered_on, gathered_stop}
use Rattle.msi_transform_records.proofs.reading.read_all.Goals as goal

pub loop-preserved : goal.loop-preserved
loop-preserved c = subst
    (λ records. Gathered c.args.shapes.now c.args.pool.now c.args.bytes.now records (c.loop.counter + 1) c.in_ok-record.after.now)
    (sym c.in_ok-push.ensures.items)
    (gathered_on c.args.shapes.now c.args.pool.now c.args.bytes.now c.loop.records.items c.loop.counter c.loop.rest.now c.in_ok-record.record c.in_ok-record.after.now c.loop.invariant c.in_ok-record.ensures)

pub returns-in_err-record-clause-kind : goal.returns-in_err-record-clause-kind
returns-in_err-record-clause-kind c =
    let p = err_from_is_err_and c.from_residual-in_err-record.result c.from_residual-in_err-record.ensures.1 in
    rw (p.1, p.2) (gathered_stop c.in_err-record.field-0.0 c.args.shapes.now c.args.pool.now c.args.bytes.now c.loop.records.items c.loop.counter c.args.count c.loop.rest.now c.loop.invariant
    (counted c.args.shapes.now c.args.pool.now c.args.bytes.now c.args.count c.requires) c.loop-test.true c.in_err-record.ensures)

pub returns-clause-ok : goal.returns-clause-ok
returns-clause-ok c =
    let all : c.loop.counter ≡ c.args.count = omega arith in
    gathered_all c.args.shapes.now c.args.pool.now c.args.bytes.now c.loop.records.items c.args.count c.loop.rest.now
    (subst (λ i. Gathered c.args.shapes.now c.args.pool.now c.args.bytes.now c.loop.records.items i c.loop.rest.now) all c.loop.invariant)
    (counted c.args.shapes.now c.args.pool.now c.args.bytes.now c.args.count c.requires)
