use Rattle.std.proofs.Common.{◌≡◌, ◌++◌, drop}
use Rattle.msi_transform_making.proofs.left_out.push_rows.Given as goal

abbrev pub invariant-loop-at : goal.invariant-loop-at
invariant-loop-at l = record { whole : l.rows.items ++ drop l.at l.stored.rows ≡ l.fn.rows.items ++ drop l.from l.stored.rows }
