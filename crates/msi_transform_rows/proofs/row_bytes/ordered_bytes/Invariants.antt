use Rattle.std.proofs.Common.{◌≡◌, ◌++◌, drop}
use Rattle.msi_table.specs.Cells.{column_bytes, table_bytes}
use Rattle.msi_table_values.specs.Columns.{types_of}
use Rattle.msi_transform_rows.proofs.row_bytes.ordered_bytes.Given as goal

abbrev pub invariant-loop-j : goal.invariant-loop-j
invariant-loop-j l = record {
  out : l.out.items ++ column_bytes l.long l.rows l.j (drop l.j (types_of l.columns)) ≡ table_bytes l.long (types_of l.columns) l.rows;
}
