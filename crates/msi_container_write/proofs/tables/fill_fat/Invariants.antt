use Rattle.std.proofs.Common.{◌≡◌, ℕ, ◌+◌, ◌*◌, ◌<◌, List, length, get_or}
use Rattle.msi_container_write.specs.Image.{fat_entry}
use Rattle.msi_container_write.specs.Index.{streams_of}
use Rattle.msi_container_write.specs.Regions.{StandIn}
use Rattle.msi_container_write.proofs.tables.fill_fat.Given as goal

abbrev pub invariant-loop-k : goal.invariant-loop-k
invariant-loop-k l = record {
  long : length l.entries ≡ 128;
  filled : (parts : List (List ℕ)) → StandIn l.regions (streams_of l.places) parts → (j : ℕ) → j < l.k → get_or l.entries j 0 ≡ fat_entry parts l.total (128 * l.m + j);
}
