use Rattle.std.specs.FinMap.{entries}
use Rattle.msi_transform.proofs.TableStreamsLemmas.{all_taken, none_left, none_taken, one_taken}
use Rattle.msi_transform.proofs.table_streams.take_each.Goals as goal

pub loop-stream-init : goal.loop-stream-init
loop-stream-init c = none_taken c.args.found.items (entries c.new-tables.result) (entries c.args.streams.now) c.new-tables.ensures

pub loop-stream-preserved : goal.loop-stream-preserved
loop-stream-preserved c =
    one_taken c.args.found.items c.loop-stream.left.items c.pop.new.self.items c.in-Some.stream (entries c.loop-stream.streams) (entries c.take_one.new.streams)
    (entries c.args.streams.now) (entries c.loop-stream.tables) (entries c.take_one.new.tables) c.loop-stream.invariant c.in-Some.ensures.items
    c.in_ok-take_one.ensures.streams c.in_ok-take_one.ensures.tables

pub returns-clause-tables : goal.returns-clause-tables
returns-clause-tables c =
    (all_taken c.args.found.items c.loop-stream.left.items (entries c.loop-stream.streams) (entries c.args.streams.now) (entries c.loop-stream.tables) c.loop-stream.invariant
    (none_left c.loop-stream.left.items c.pop.new.self.items c.loop-stream.left.len c.in_default.ensures.items c.in_default.ensures.rest c.in_default.ensures.cases.0)).1

pub returns-clause-streams : goal.returns-clause-streams
returns-clause-streams c =
    (all_taken c.args.found.items c.loop-stream.left.items (entries c.loop-stream.streams) (entries c.args.streams.now) (entries c.loop-stream.tables) c.loop-stream.invariant
    (none_left c.loop-stream.left.items c.pop.new.self.items c.loop-stream.left.len c.in_default.ensures.items c.in_default.ensures.rest c.in_default.ensures.cases.0)).0
