use Rattle.std.proofs.Common.{◌≡◌, ℕ, ◌+◌, ◌*◌, ◌<◌, length, get_or}
use Rattle.msi_container_write.specs.Image.{difat_entry}
use Rattle.msi_container_write.proofs.tables.fill_difat.Given as goal

abbrev pub invariant-loop-k : goal.invariant-loop-k
invariant-loop-k l = record {
  long : length l.entries ≡ 128;
  filled : (j : ℕ) → j < l.k → get_or l.entries j 0 ≡ difat_entry l.taken l.total (128 * l.m + j);
}
