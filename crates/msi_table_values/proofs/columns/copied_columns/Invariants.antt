use Rattle.std.proofs.Common.{◌≡◌, take}
use Rattle.msi_table_values.proofs.columns.copied_columns.Given as goal

abbrev pub invariant-loop-column : goal.invariant-loop-column
invariant-loop-column l = record {
  copies : l.copies.items ≡ take l.column-index l.columns;
}
