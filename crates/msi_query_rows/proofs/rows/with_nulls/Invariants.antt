use Rattle.std.proofs.Common.{◌≡◌, ◌++◌, replicate}
use Rattle.msi_table_cells.specs.declared.cell.ValueRef.TheVariants as cell
use Rattle.msi_query_rows.proofs.rows.with_nulls.Given as goal

abbrev pub invariant-loop : goal.invariant-loop
invariant-loop l = record {
  cells : l.cells.items ≡ l.row ++ replicate l.counter cell.Null;
}
