use Rattle.std.proofs.Common.{◌≡◌, ◌≤◌, ◌*◌, sum, take}
use Rattle.msi_table.specs.Cells.{widths}
use Rattle.msi_table_values.specs.Columns.{types_of}
use Rattle.msi_table.proofs.rows.row_width.Given as goal

abbrev pub invariant-loop-column : goal.invariant-loop-column
invariant-loop-column l = record {
  total : l.total ≡ sum (take l.column-index (widths l.long (types_of l.columns)));
  small : l.total ≤ 4 * l.column-index;
}
