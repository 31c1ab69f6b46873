use Rattle.std.proofs.Common.{◌≡◌, ◌++◌, map}
use Rattle.std.specs.FinMap.{entries}
use Rattle.msi_transform_making.specs.Making.{addition}
use Rattle.msi_transform_making.proofs.differences.push_all_added.Given as goal

abbrev pub invariant-loop-key : goal.invariant-loop-key
invariant-loop-key l = record { whole : l.records.items ++ map addition l.key-iterator ≡ l.fn.records.items ++ map addition (entries l.rows) }
