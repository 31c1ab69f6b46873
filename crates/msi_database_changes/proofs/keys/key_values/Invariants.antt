use Rattle.std.proofs.Common.{◌≡◌, ◌++◌}
use Rattle.msi_table_cells.specs.KeyOrder.{key_of}
use Rattle.msi_database_changes.specs.Views.{seen_row}
use Rattle.msi_database_changes.proofs.row_keys.ViewLemmas.{key_from}
use Rattle.msi_database_changes.proofs.keys.key_values.Given as goal

abbrev pub invariant-loop-i : goal.invariant-loop-i
invariant-loop-i l = record {
  whole : seen_row l.values.items ++ key_from l.columns l.row l.i ≡ key_of l.columns (seen_row l.row);
}
