use Rattle.std.proofs.Common.{◌≡◌, ℕ, ◌+◌, ◌<◌, length, slice_index}
use Rattle.msi_container_tables.proofs.directory.Directory.clsid.Given as goal

abbrev pub invariant-loop-i : goal.invariant-loop-i
invariant-loop-i l = record {
  long : length l.clsid ≡ 16;
  filled : (k : ℕ) → k < l.i → slice_index l.clsid k ≡ slice_index l.self.bytes.now (l.from + k);
}
