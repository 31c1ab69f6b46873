use Rattle.std.proofs.Common.{◌≡◌, ℕ, ◌*◌, ◌<◌, length, slice_index}
use Rattle.msi_container_format.specs.Bytes as spelled
use Rattle.msi_container_format.specs.Container as container
use Rattle.msi_container_tables.proofs.directory.Directory.units.Given as goal

abbrev pub invariant-loop-i : goal.invariant-loop-i
invariant-loop-i l = record {
  long : length l.units ≡ 31;
  filled : (k : ℕ) → k < l.i → slice_index l.units k ≡ spelled.number16 l.self.bytes.now (container.field l.self.bytes.now l.self.sectors.now l.entry (2 * k));
}
