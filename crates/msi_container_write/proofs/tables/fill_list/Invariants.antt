use Rattle.std.proofs.Common.{◌≡◌, ℕ, ◌<◌, length, get_or}
use Rattle.msi_container_write.specs.Image.{listed_entry}
use Rattle.msi_container_write.proofs.tables.fill_list.Given as goal

abbrev pub invariant-loop-k : goal.invariant-loop-k
invariant-loop-k l = record {
  long : length l.entries ≡ 109;
  filled : (j : ℕ) → j < l.k → get_or l.entries j 0 ≡ listed_entry l.fat.first l.fat.count j;
}
