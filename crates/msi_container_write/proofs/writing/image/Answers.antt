use Rattle.msi_container_write.specs.Image.{image_byte}
use Rattle.msi_container_write.specs.Index.{streams_of}
use Rattle.msi_container_write.specs.Layout.{mini_fat_run, parts_of}
use Rattle.msi_container_write.proofs.sectors.SectorsHeldLemmas.{sector_pushed}
use Rattle.msi_container_write.proofs.writing.image.Goals as goal

pub loop-n-preserved : goal.loop-n-preserved
loop-n-preserved c =
    let streams = streams_of c.args.layout.now.places.now in
    sector_pushed (image_byte (parts_of c.args.layout.now.clsid streams) (mini_fat_run streams) c.args.layout.now.extent.total) c.loop-n.n
    c.loop-n.image.items _ c.fill.new.sector c.loop-n.invariant c.fill.ensures c.in_ok-extend_from_slice.ensures.items
