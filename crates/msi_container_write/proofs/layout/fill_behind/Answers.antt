use Rattle.std.proofs.Common.{◌-◌, ◌∙◌, arith}
use Rattle.msi_container_write.specs.Index.{streams_of}
use Rattle.msi_container_write.specs.Layout.{parts_of}
use Rattle.msi_container_write.proofs.sectors.RegionLemmas.{layout_stands}
use Rattle.msi_container_write.proofs.sectors.FileSectorLemmas.{file_fat, file_difat, file_free}
use Rattle.msi_container_write.proofs.layout.fill_behind.Goals as goal

pub returns-then-m-count : goal.returns-then-m-count
returns-then-m-count c =
    let laid_out = c.requires in
    let root = c.args.layout.now.clsid in
    let streams = streams_of c.args.layout.now.places.now in
    c.fill_fat.ensures (parts_of root streams) (layout_stands root streams c.regions_of-regions.result laid_out.clsid c.regions_of-regions.ensures)
    ∙ file_fat root streams c.args.layout.now.extent.total c.args.layout.now.extent.taken c.args.m laid_out.clsid laid_out.taken (omega (arith, c.fat_sectors-count.ensures))

pub returns-then-m-count-2 : goal.returns-then-m-count-2
returns-then-m-count-2 c =
    let laid_out = c.requires in
    let all = c.args.layout.now.extent in
    c.fill_difat.ensures
    ∙ file_difat c.args.layout.now.clsid (streams_of c.args.layout.now.places.now) all.total all.taken (c.args.m - c.fat_sectors-count.result) c.args.m laid_out.clsid laid_out.taken
    (omega (arith, c.fat_sectors-count.ensures, c.difat_sectors.ensures)) (omega (arith, c.fat_sectors-count.ensures))

pub returns-else-m-count-2 : goal.returns-else-m-count-2
returns-else-m-count-2 c =
    let laid_out = c.requires in
    let all = c.args.layout.now.extent in
    file_free c.args.layout.now.clsid (streams_of c.args.layout.now.places.now) all.total all.taken c.args.m laid_out.clsid laid_out.taken
    (omega (arith, c.fat_sectors-count.ensures, c.difat_sectors.ensures))
