use Rattle.std.proofs.Common.{take}
use Rattle.msi_table.specs.Differences.{IsIndex}
use Rattle.msi_table.proofs.index.index_of.Given as goal

abbrev pub invariant-loop-i : goal.invariant-loop-i
invariant-loop-i l = record {
  known : IsIndex l.columns (take l.i l.rows) l.index;
}
