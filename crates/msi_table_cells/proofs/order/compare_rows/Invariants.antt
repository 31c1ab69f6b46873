use Rattle.std.proofs.Common.{◌≡◌}
use Rattle.msi_table_cells.specs.StoredOrder.{row_cmp}
use Rattle.msi_table_cells.proofs.RowOrderLemmas.{stored_from}
use Rattle.msi_table_cells.proofs.order.compare_rows.Given as goal

abbrev pub invariant-loop-i : goal.invariant-loop-i
invariant-loop-i l = record {
  same : row_cmp l.columns l.row l.other ≡ stored_from l.columns l.row l.other l.i;
}
