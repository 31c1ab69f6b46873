use Rattle.std.proofs.Common.{◌≡◌}
use Rattle.std.specs.Cmp.Lexicographic.{slice_cmp}
use Rattle.msi_table_cells.specs.CellValues.{row_values}
use Rattle.msi_table_values.specs.Values.{value_cmp}
use Rattle.msi_query_rows.proofs.DistinctLemmas.{cells_from}
use Rattle.msi_query_rows.proofs.distinct.compare_cells.Given as goal

abbrev pub invariant-loop-i : goal.invariant-loop-i
invariant-loop-i l = record {
  same : slice_cmp value_cmp (row_values l.pool.places l.row) (row_values l.others.places l.other)
      ≡ cells_from l.pool.places l.others.places l.row l.other l.i;
}
