use Rattle.std.proofs.Common.{◌≡◌, ◌++◌, take}
use Rattle.msi_table_cells.specs.CellValues.{row_values}
use Rattle.msi_query_expressions.specs.Conditions.{meets}
use Rattle.msi_query.specs.Rows.{rows_values}
use Rattle.msi_query.specs.Selection.{pairs_of}
use Rattle.msi_query_rows.proofs.joins.add_pairs.Given as goal

abbrev pub invariant-loop-other : goal.invariant-loop-other
invariant-loop-other l = record {
  rows : rows_values l.pool.places l.rows.items ≡ rows_values l.pool.places l.initial.rows.items
      ++ pairs_of (meets l.filter.columns l.filter.condition) (rows_values l.pool.places (take l.other-index l.right)) (row_values l.pool.places l.row);
}
