use Rattle.std.proofs.Common.{◌≡◌, ◌++◌}
use Rattle.std.specs.FinMap.{entries}
use Rattle.msi_transform_making.specs.Making.{removals}
use Rattle.msi_transform_making.proofs.differences.push_removals.Given as goal

abbrev pub invariant-loop-key : goal.invariant-loop-key
invariant-loop-key l = record { whole : l.records.items ++ removals l.key-iterator (entries l.new) ≡ l.fn.records.items ++ removals (entries l.old) (entries l.new) }
