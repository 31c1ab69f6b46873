use Rattle.std.proofs.Common.{rules}
use Rattle.std.specs.FinMap.{entries}
use Rattle.std.specs.Vec.Iter.{into_iter_items}
use Rattle.msi.specs.Renewing.{with_renewed}
use Rattle.msi.proofs.writing.CopyingLemmas.{put_more}
use Rattle.msi.proofs.renewing.put_all.Goals as goal

pub loop-name-preserved : goal.loop-name-preserved
loop-name-preserved c =
    put_more c.loop-name.streams c.insert.new.self c.in-Some.name c.in-Some.bytes (into_iter_items c.loop-name.name-iterator) (into_iter_items c.next.new.self)
    (with_renewed (into_iter_items c.args.renewed) (entries c.args.streams.now)) c.loop-name.invariant (search rules) c.in_ok-insert.ensures.ok
