use Rattle.std.proofs.Common.{◌-◌, ◌∙◌, arith}
use Rattle.msi_container_write.specs.Index.{streams_of}
use Rattle.msi_container_write.proofs.sectors.FileSectorLemmas.{directory_part, mini_fat_part, mini_stream_part, large_part}
use Rattle.msi_container_write.proofs.layout.fill_part.Goals as goal

pub returns-then-m-regions : goal.returns-then-m-regions
returns-then-m-regions c =
    let laid_out = c.requires.laid_out in
    c.fill_directory.ensures
    ∙ directory_part c.args.layout.now.clsid (streams_of c.args.layout.now.places.now) c.args.m laid_out.clsid (omega (arith, c.regions_of-regions.ensures.mini_fat))

pub returns-then-m-regions-2 : goal.returns-then-m-regions-2
returns-then-m-regions-2 c =
    let laid_out = c.requires.laid_out in
    let r = c.regions_of-regions.ensures in
    c.fill_mini_fat.ensures
    ∙ mini_fat_part c.args.layout.now.clsid (streams_of c.args.layout.now.places.now) (c.args.m - c.regions_of-regions.result.mini_fat) c.args.m laid_out.clsid (omega (arith, r.mini_fat, r.mini_stream)) (omega (arith, r.mini_fat))

pub returns-then-m-regions-3 : goal.returns-then-m-regions-3
returns-then-m-regions-3 c =
    let laid_out = c.requires.laid_out in
    let r = c.regions_of-regions.ensures in
    c.fill_mini_stream.ensures
    ∙ mini_stream_part c.args.layout.now.clsid (streams_of c.args.layout.now.places.now) (c.args.m - c.regions_of-regions.result.mini_stream) c.args.m laid_out.clsid (omega (arith, r.mini_stream, r.large)) (omega (arith, r.mini_stream))

pub returns-else-m-regions-3 : goal.returns-else-m-regions-3
returns-else-m-regions-3 c =
    let laid_out = c.requires.laid_out in
    let r = c.regions_of-regions.ensures in
    c.fill_large.ensures
    ∙ large_part c.args.layout.now.clsid (streams_of c.args.layout.now.places.now) (c.args.m - c.regions_of-regions.result.large) c.args.m laid_out.clsid (omega (arith, r.large))
