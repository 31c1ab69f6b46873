use Rattle.std.proofs.Common.{◌≡◌}
use Rattle.msi_table_cells.specs.KeyOrder.{key_cmp}
use Rattle.msi_table_cells.proofs.RowOrderLemmas.{keys_from}
use Rattle.msi_table_cells.proofs.order.compare_keys.Given as goal

abbrev pub invariant-loop-i : goal.invariant-loop-i
invariant-loop-i l = record {
  same : key_cmp l.columns l.pool.places l.row l.other ≡ keys_from l.columns l.pool.places l.row l.other l.i;
}
