use Rattle.std.proofs.lemmas.Result.{err_from_is_err_and}
use Rattle.msi_summary_properties.specs.Reading.{pairs_at}
use Rattle.msi_summary_properties.proofs.PairsLoopLemmas.{goes_on, no_id, no_place, is_done}
use Rattle.msi_summary_properties.proofs.header.pairs_at.Goals as goal

pub returns : goal.returns
returns c = is_done c.loop.pairs.items c.args.count c.loop.counter c.loop.rest.now (pairs_at c.args.count c.args.bytes.now) c.loop-test.false c.loop.invariant

pub returns-in_err-id : goal.returns-in_err-id
returns-in_err-id c =
    let p = err_from_is_err_and c.from_residual.result c.from_residual.ensures.1 in
    rw (p.1, p.2) (no_id c.in_err-id.field-0.0 c.loop.pairs.items c.args.count c.loop.counter c.loop.rest.now (pairs_at c.args.count c.args.bytes.now) c.loop-test.true c.in_err-id.ensures c.loop.invariant)

pub returns-in_err-place : goal.returns-in_err-place
returns-in_err-place c =
    let p = err_from_is_err_and c.from_residual-in_err-place.result c.from_residual-in_err-place.ensures.1 in
    rw (p.1, p.2) (no_place c.in_err-place.field-0.0 c.loop.pairs.items c.args.count c.loop.counter c.loop.rest.now c.in_ok-id.id c.in_ok-id.after_id.now (pairs_at c.args.count c.args.bytes.now) c.loop-test.true c.in_ok-id.ensures c.in_err-place.ensures c.loop.invariant)

pub loop-preserved : goal.loop-preserved
loop-preserved c = rw c.in_ok-push.ensures.items (goes_on c.loop.pairs.items c.args.count c.loop.counter c.loop.rest.now c.in_ok-id.id c.in_ok-place.place c.in_ok-id.after_id.now c.in_ok-place.after.now (pairs_at c.args.count c.args.bytes.now) c.loop-test.true c.in_ok-id.ensures c.in_ok-place.ensures c.loop.invariant)
