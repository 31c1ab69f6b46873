use Rattle.std.proofs.Common.{◌≡◌, ◌*◌, map}
use Rattle.std.specs.List.{range_with_len}
use Rattle.msi_container_write.specs.Image.{image_byte}
use Rattle.msi_container_write.specs.Index.{streams_of}
use Rattle.msi_container_write.specs.Layout.{mini_fat_run, parts_of}
use Rattle.msi_container_write.proofs.writing.image.Given as goal

-- the sectors so far
abbrev pub invariant-loop-n : goal.invariant-loop-n
invariant-loop-n l =
    let streams = streams_of l.layout.places.now in
    l.image.items ≡ map (image_byte (parts_of l.layout.clsid streams) (mini_fat_run streams) l.layout.extent.total) (range_with_len 0 (512 * l.n))
