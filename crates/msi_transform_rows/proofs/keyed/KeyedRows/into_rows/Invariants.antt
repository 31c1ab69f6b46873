use Rattle.std.proofs.Common.{◌≡◌, ◌++◌}
use Rattle.std.specs.FinMap.{entries}
use Rattle.msi_transform_rows.proofs.keyed.KeyedRows.into_rows.Given as goal

-- with the rows to come, these are all
abbrev pub invariant-loop-key : goal.invariant-loop-key
invariant-loop-key l = l.rows.items ++ l.key-iterator ≡ entries l.fn.self
