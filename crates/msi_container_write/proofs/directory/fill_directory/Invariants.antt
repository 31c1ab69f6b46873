use Rattle.std.proofs.Common.{◌≡◌, ◌*◌, length, map, slice_index, take}
use Rattle.std.specs.List.{range_with_len}
use Rattle.msi_container_write.specs.Index.{streams_of}
use Rattle.msi_container_write.specs.Layout.{directory_of}
use Rattle.msi_container_write.proofs.directory.fill_directory.Given as goal

abbrev pub invariant-loop-slot : goal.invariant-loop-slot
invariant-loop-slot l = record {
  long : length l.sector ≡ 512;
  filled : take (128 * l.slot) l.sector ≡ map (slice_index (directory_of l.clsid (streams_of l.places))) (range_with_len (512 * l.m) (128 * l.slot));
}
