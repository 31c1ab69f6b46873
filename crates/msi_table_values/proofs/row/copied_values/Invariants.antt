use Rattle.std.proofs.Common.{◌≡◌, take}
use Rattle.msi_table_values.proofs.row.copied_values.Given as goal

abbrev pub invariant-loop-value : goal.invariant-loop-value
invariant-loop-value l = record {
  copies : l.copies.items ≡ take l.value-index l.values;
}
