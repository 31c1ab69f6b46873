use Rattle.std.proofs.Common.{◌≡◌, ◌++◌}
use Rattle.std.specs.FinMap.{entries}
use Rattle.msi_transform_making.specs.Making.{additions}
use Rattle.msi_transform_making.proofs.differences.push_additions.Given as goal

abbrev pub invariant-loop-key : goal.invariant-loop-key
invariant-loop-key l = record { whole : l.records.items ++ additions (entries l.old) l.key-iterator ≡ l.fn.records.items ++ additions (entries l.old) (entries l.new) }
