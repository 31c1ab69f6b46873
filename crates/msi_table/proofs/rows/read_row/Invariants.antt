use Rattle.std.proofs.Common.{◌≡◌, ◌*◌, sum, take}
use Rattle.msi_base.specs.Lists.{tabulated}
use Rattle.msi_table.specs.Cells.{widths, cell_at}
use Rattle.msi_table_values.specs.Columns.{types_of}
use Rattle.msi_table.proofs.rows.read_row.Given as goal

abbrev pub invariant-loop-column : goal.invariant-loop-column
invariant-loop-column l = record {
  row : l.row.items ≡ tabulated l.column-index (cell_at l.long (types_of l.columns) l.bytes l.i);
  start : l.start ≡ l.count * sum (take l.column-index (widths l.long (types_of l.columns)));
}
