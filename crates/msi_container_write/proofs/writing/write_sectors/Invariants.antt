use Rattle.std.proofs.Common.{◌≡◌, ◌*◌, map, option_map}
use Rattle.std.specs.List.{range_with_len}
use Rattle.msi_container_device.specs.Held.{with_piece}
use Rattle.msi_container_write.specs.Image.{image_byte}
use Rattle.msi_container_write.specs.Index.{streams_of}
use Rattle.msi_container_write.specs.Layout.{mini_fat_run, parts_of}
use Rattle.msi_container_write.proofs.writing.write_sectors.Given as goal

-- the sectors so far were put over what was held
abbrev pub invariant-loop-n : goal.invariant-loop-n
invariant-loop-n g l = record {
  held : g.W.Source.held l.device ≡ option_map (with_piece (map (image_byte (parts_of l.layout.clsid (streams_of l.layout.places.now)) (mini_fat_run (streams_of l.layout.places.now)) l.layout.extent.total) (range_with_len 0 (512 * l.n)))) (g.W.Source.held l.fn.device);
  failed : g.W.Source.failed l.device ≡ g.W.Source.failed l.fn.device;
}
