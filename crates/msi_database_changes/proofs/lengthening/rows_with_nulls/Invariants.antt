use Rattle.std.proofs.Common.{◌≡◌}
use Rattle.msi_database_changes.specs.AddColumn.{with_nulls}
use Rattle.msi_database_changes.proofs.lengthening.rows_with_nulls.Given as goal

abbrev pub invariant-loop-row : goal.invariant-loop-row
invariant-loop-row l = record { made : l.longer.items ≡ with_nulls l.yielded }
