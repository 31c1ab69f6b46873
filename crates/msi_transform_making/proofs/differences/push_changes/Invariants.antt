use Rattle.std.proofs.Common.{◌≡◌, ◌++◌}
use Rattle.std.specs.FinMap.{entries}
use Rattle.msi_transform_making.specs.Making.{changes}
use Rattle.msi_transform_making.proofs.differences.push_changes.Given as goal

abbrev pub invariant-loop-key : goal.invariant-loop-key
invariant-loop-key l = record { whole : l.records.items ++ changes l.columns (entries l.old) l.key-iterator ≡ l.fn.records.items ++ changes l.columns (entries l.old) (entries l.new) }
