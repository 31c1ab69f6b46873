use Rattle.std.proofs.Common.{arith}
use Rattle.msi_pool_places.proofs.PlaceIndexLemmas.{take_follows}
use Rattle.msi_pool_places.proofs.indexed.indexes_of.Goals as goal

pub loop-at-preserved : goal.loop-at-preserved
loop-at-preserved c =
    let is = take_follows c.args.places.now c.loop-at.at c.index-places-at.result c.loop-at.free c.enter.new.free c.loop-at.texts c.enter.new.texts c.loop-at-test.true c.index-places-at.is c.loop-at.invariant.are_free c.loop-at.invariant.are_open c.in_ok-enter.ensures.free c.in_ok-enter.ensures.texts in
    record { are_free = is.are_free; are_open = is.are_open; few = omega (arith, c.loop-at.invariant.few, c.in_ok-enter.ensures.most) }
