use Rattle.std.proofs.Common.{ap, arith, length, ◌<◌}
use Rattle.msi_pool_places.proofs.PlaceLoopLemmas.{got}
use Rattle.msi_pool_places.proofs.TextJoiningLemmas.{entry_at, length-entries, short_at, unread_many}
use Rattle.msi_pool_places.proofs.entries.Entries.entry.Goals as goal

pub get-len-requires : goal.get-len-requires
get-len-requires c =
    let lens = c.self.inside.lens in
    let counts = c.self.inside.counts.items in
    omega (arith, c.requires, ap length c.self.view_is, length-entries lens counts c.self.invariant, unread_many lens counts c.self.invariant)

pub overflow_cast-len : goal.overflow_cast-len
overflow_cast-len c =
    let lens = c.self.inside.lens in
    let counts = c.self.inside.counts.items in
    let within : c.args.at < length counts = omega (arith, c.requires, ap length c.self.view_is, length-entries lens counts c.self.invariant) in
    omega (arith, short_at lens counts c.args.at c.get-len.result c.self.invariant within (got lens c.args.at c.get-len.result c.get-len.ensures))

pub index-requires : goal.index-requires
index-requires c =
    let counts = c.self.inside.counts in
    omega (arith, c.requires, counts.ok.0, ap length c.self.view_is, length-entries c.self.inside.lens counts.items c.self.invariant)

pub returns : goal.returns
returns c =
    let lens = c.self.inside.lens in
    let counts = c.self.inside.counts.items in
    let within : c.args.at < length counts = omega (arith, c.requires, ap length c.self.view_is, length-entries lens counts c.self.invariant) in
    rw (← c.self.view_is, c.new.ensures, c.cells.ensures) (entry_at lens counts c.args.at c.get-len.result c.index.result.now c.self.invariant within (got lens c.args.at c.get-len.result c.get-len.ensures) c.index.ensures)
