use Rattle.std.proofs.Common.{◌≡◌, take}
use Rattle.msi_table.specs.Differences.{each_from, of_old}
use Rattle.msi_table.proofs.comparing.of_old_rows.Given as goal

abbrev pub invariant-loop-i : goal.invariant-loop-i
invariant-loop-i l = record {
  so_far : l.found.items ≡ each_from (of_old l.columns l.new) 0 (take l.i l.old);
}
