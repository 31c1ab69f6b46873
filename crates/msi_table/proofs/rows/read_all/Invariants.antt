use Rattle.std.proofs.Common.{◌≡◌}
use Rattle.msi_base.specs.Lists.{tabulated}
use Rattle.msi_table.specs.Cells.{row_in}
use Rattle.msi_table_values.specs.Columns.{types_of}
use Rattle.msi_table.proofs.rows.read_all.Given as goal

abbrev pub invariant-loop-i : goal.invariant-loop-i
invariant-loop-i l = record {
  rows : l.rows.items ≡ tabulated l.i (row_in l.long (types_of l.columns) l.bytes);
}
