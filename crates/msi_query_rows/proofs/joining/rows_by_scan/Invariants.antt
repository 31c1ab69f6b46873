use Rattle.std.proofs.Common.{◌≡◌, take}
use Rattle.std.specs.List.{flat_map}
use Rattle.msi_query_expressions.specs.Conditions.{meets}
use Rattle.msi_query.specs.Rows.{rows_values}
use Rattle.msi_query.specs.Selection.{rows_of_row}
use Rattle.msi_query_rows.proofs.joining.rows_by_scan.Given as goal

abbrev pub invariant-loop-row : goal.invariant-loop-row
invariant-loop-row l = record {
  rows : rows_values l.pool.places l.rows.items
      ≡ flat_map (rows_of_row l.join.kind (meets l.join.filter.now.columns l.join.filter.now.condition) l.join.width (rows_values l.pool.places l.right))
      (rows_values l.pool.places (take l.row-index l.left));
}
