use Rattle.std.proofs.Common.{◌≡◌, filter}
use Rattle.msi_query_expressions.specs.Conditions.{meets}
use Rattle.msi_query.specs.Rows.{rows_values}
use Rattle.msi_query_rows.proofs.narrowing.filtered.Given as goal

abbrev pub invariant-loop-row : goal.invariant-loop-row
invariant-loop-row l = record {
  kept : rows_values l.pool.places l.kept.items
      ≡ filter (meets l.test.columns l.test.condition) (rows_values l.pool.places l.yielded);
}
