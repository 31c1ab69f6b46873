use Rattle.std.proofs.Common.{arith, length, refl, ◌<◌}
use Rattle.msi_pool_places.proofs.PlaceLoopLemmas.{got}
use Rattle.msi_pool_places.proofs.TextJoiningLemmas.{entries_next, next_is, next_short, within_ends}
use Rattle.msi_pool_places.proofs.joiner.TextJoiner.next_entry.Goals as goal

pub get-len-requires : goal.get-len-requires
get-len-requires c =
    let joiner = c.args.self.now in
    within_ends joiner.ends joiner.counts.items joiner.read c.requires.left (omega (arith, c.if-self-len.false, c.len.ensures, joiner.counts.ok.0))

pub overflow_cast-len : goal.overflow_cast-len
overflow_cast-len c =
    let joiner = c.args.self.now in
    let within : joiner.read < length joiner.counts.items = omega (arith, c.if-self-len.false, c.len.ensures, joiner.counts.ok.0) in
    omega (arith, next_short joiner.ends joiner.counts.items joiner.read c.get-len.result c.requires.left within (got joiner.ends joiner.read c.get-len.result c.get-len.ensures))

pub returns : goal.returns
returns c =
    let joiner = c.args.self.now in
    let within : joiner.read < length joiner.counts.items = omega (arith, c.if-self-len.false, c.len.ensures, joiner.counts.ok.0) in
    let next = next_is joiner.ends joiner.counts.items joiner.read c.get-len.result c.index.result.now c.requires.left within (got joiner.ends joiner.read c.get-len.result c.get-len.ensures) c.index.ensures in
    rw (c.new.ensures, c.cells.ensures, entries_next joiner.ends joiner.counts.items joiner.read c.get-len.result c.index.result.now next) refl
