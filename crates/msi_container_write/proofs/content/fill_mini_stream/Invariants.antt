use Rattle.std.proofs.Common.{◌≡◌, ◌*◌, length, take, map}
use Rattle.std.specs.List.{range_with_len}
use Rattle.msi_container_write.specs.Extents.{laid_byte}
use Rattle.msi_container_write.specs.Index.{streams_of}
use Rattle.msi_container_write.specs.Layout.{mini_parts}
use Rattle.msi_container_write.proofs.content.fill_mini_stream.Given as goal

abbrev pub invariant-loop-k : goal.invariant-loop-k
invariant-loop-k l = record {
  long : length l.sector ≡ 512;
  filled : take (64 * l.k) l.sector ≡ map (laid_byte 64 (mini_parts (streams_of l.places))) (range_with_len (512 * l.m) (64 * l.k));
}
