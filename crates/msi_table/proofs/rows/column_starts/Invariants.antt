use Rattle.std.proofs.Common.{◌≡◌, ◌*◌, sum, take}
use Rattle.msi_base.specs.Lists.{tabulated}
use Rattle.msi_table.specs.Cells.{widths}
use Rattle.msi_table_values.specs.Columns.{types_of}
use Rattle.msi_table.proofs.rows.column_starts.Given as goal

abbrev pub invariant-loop-column : goal.invariant-loop-column
invariant-loop-column l = record {
  starts : l.starts.items ≡ tabulated l.column-index (λ j. l.count * sum (take j (widths l.long (types_of l.columns))));
  start : l.start ≡ l.count * sum (take l.column-index (widths l.long (types_of l.columns)));
}
