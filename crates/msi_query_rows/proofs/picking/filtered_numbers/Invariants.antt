use Rattle.std.proofs.Common.{◌≡◌, Some, filter, length, take}
use Rattle.msi_table.specs.Rows.{AreRowNumbers, rows_numbered}
use Rattle.msi_query_expressions.specs.Conditions.{meets}
use Rattle.msi_query.specs.Rows.{rows_values}
use Rattle.msi_query_rows.proofs.picking.filtered_numbers.Given as goal

abbrev pub invariant-loop-i : goal.invariant-loop-i
invariant-loop-i l = record {
  kept : rows_values l.pool.places (rows_numbered (Some l.numbers.items) l.stored.rows)
      ≡ filter (meets l.test.columns l.test.condition) (rows_values l.pool.places (take l.i l.stored.rows));
  inside : AreRowNumbers (length l.stored.rows) (Some l.numbers.items);
}
