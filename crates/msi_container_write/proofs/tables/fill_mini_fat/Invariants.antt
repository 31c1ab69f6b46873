use Rattle.std.proofs.Common.{◌≡◌, ℕ, ◌+◌, ◌*◌, ◌<◌, length, get_or}
use Rattle.msi_container_write.specs.Index.{streams_of}
use Rattle.msi_container_write.specs.Layout.{mini_parts, mini_fat_entry}
use Rattle.msi_container_write.proofs.tables.fill_mini_fat.Given as goal

abbrev pub invariant-loop-k : goal.invariant-loop-k
invariant-loop-k l = record {
  long : length l.entries ≡ 128;
  filled : (j : ℕ) → j < l.k → get_or l.entries j 0 ≡ mini_fat_entry (mini_parts (streams_of l.places)) (128 * l.m + j);
}
