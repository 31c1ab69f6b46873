use Rattle.std.proofs.Common.{◌≡◌, ◌++◌}
use Rattle.msi_table_cells.specs.KeyOrder.{key_of}
use Rattle.msi_table.proofs.KeyLemmas.{key_from}
use Rattle.msi_table.proofs.keys.key_values.Given as goal

abbrev pub invariant-loop-i : goal.invariant-loop-i
invariant-loop-i l = record {
  whole : l.values.items ++ key_from l.columns l.row l.i ≡ key_of l.columns l.row;
}
