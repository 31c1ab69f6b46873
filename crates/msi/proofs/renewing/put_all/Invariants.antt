use Rattle.std.proofs.Common.{◌≡◌}
use Rattle.std.specs.FinMap.{entries}
use Rattle.std.specs.Vec.Iter.{into_iter_items}
use Rattle.msi.specs.Renewing.{with_renewed}
use Rattle.msi.proofs.renewing.put_all.Given as goal

-- those that are left are still to be put
abbrev pub invariant-loop-name : goal.invariant-loop-name
invariant-loop-name l = with_renewed (into_iter_items l.name-iterator) (entries l.streams) ≡ with_renewed (into_iter_items l.fn.renewed) (entries l.fn.streams)
