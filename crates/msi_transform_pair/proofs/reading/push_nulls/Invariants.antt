use Rattle.std.proofs.Common.{◌≡◌, ◌++◌}
use Rattle.std.specs.Prelude.{replicate}
use Rattle.msi_database_changes.specs.Views.{seen_row}
use Rattle.msi_table_values.specs.declared.value.Value.TheVariants.{Null}
use Rattle.msi_transform_pair.proofs.reading.push_nulls.Given as goal

abbrev pub invariant-loop-i : goal.invariant-loop-i
invariant-loop-i l = record { nulls : seen_row l.values.items ≡ seen_row l.fn.values.items ++ replicate l.i Null }
