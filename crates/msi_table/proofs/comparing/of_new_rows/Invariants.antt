use Rattle.std.proofs.Common.{◌≡◌, take}
use Rattle.msi_table.specs.Differences.{each_from, of_new}
use Rattle.msi_table.proofs.comparing.of_new_rows.Given as goal

abbrev pub invariant-loop-i : goal.invariant-loop-i
invariant-loop-i l = record {
  so_far : l.found.items ≡ each_from (of_new l.columns l.old) 0 (take l.i l.new);
}
