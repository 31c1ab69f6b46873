use Rattle.std.proofs.Common.{◌≡◌}
use Rattle.std.specs.Cmp.Lexicographic.{slice_cmp}
use Rattle.msi_table_values.specs.Values.{value_cmp}
use Rattle.msi_database_changes.specs.Views.{seen_row}
use Rattle.msi_database_changes.proofs.row_keys.ViewLemmas.{order_from}
use Rattle.msi_database_changes.proofs.views.compare_views.Given as goal

abbrev pub invariant-loop-i : goal.invariant-loop-i
invariant-loop-i l = record {
  same : slice_cmp value_cmp (seen_row l.row) (seen_row l.other) ≡ order_from (seen_row l.row) (seen_row l.other) l.i;
}
