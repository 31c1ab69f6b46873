use Rattle.std.proofs.Common.{◌≡◌, ◌++◌}
use Rattle.msi_transform_rows.specs.RowChanges.{values_told}
use Rattle.msi_transform_rows.proofs.ToldValuesLemmas.{values_from}
use Rattle.msi_transform_rows.proofs.table_change.TableChange.added_values.Given as goal

abbrev pub invariant-loop-i : goal.invariant-loop-i
invariant-loop-i l = record {
  whole : l.values.items ++ values_from l.self l.cells l.i ≡ values_told l.self l.cells;
}
