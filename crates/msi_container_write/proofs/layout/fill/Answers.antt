use Rattle.std.proofs.Common.{◌≡◌, ◌+◌, ◌-◌, ◌∙◌, ap, refl, arith}
use Rattle.msi_container_write.specs.Index.{streams_of}
use Rattle.msi_container_write.specs.Sectors.{file_sector}
use Rattle.msi_container_write.proofs.sectors.FileSectorLemmas.{file_header, file_part}
use Rattle.msi_container_write.proofs.layout.fill.Goals as goal

pub returns-then-n-eq0 : goal.returns-then-n-eq0
returns-then-n-eq0 c =
    let laid_out = c.requires.laid_out in
    let all = c.args.layout.now.extent in
    c.fill_header.ensures
    ∙ file_header c.args.layout.now.clsid (streams_of c.args.layout.now.places.now) all.total all.taken c.args.n 109
    c.fat_run-fat.result c.difat_run-difat.result c.mini_fat_run-mini_fat.result refl laid_out.clsid laid_out.taken c.if-n-eq0.true
    c.fat_run-fat.ensures.first c.fat_run-fat.ensures.count c.difat_run-difat.ensures c.mini_fat_run-mini_fat.ensures

pub returns-then-n-extent : goal.returns-then-n-extent
returns-then-n-extent c =
    let laid_out = c.requires.laid_out in
    let all = c.args.layout.now.extent in
    c.fill_part.ensures
    ∙ file_part c.args.layout.now.clsid (streams_of c.args.layout.now.places.now) all.total all.taken (c.args.n - 1) c.args.n laid_out.clsid laid_out.taken (omega arith) (omega arith)

pub returns-else-n-extent : goal.returns-else-n-extent
returns-else-n-extent c =
    let taken = c.args.layout.now.extent.taken in
    let there : taken + 1 + (c.args.n - 1 - taken) ≡ c.args.n = omega arith in
    c.fill_behind.ensures
    ∙ ap (file_sector c.args.layout.now.clsid (streams_of c.args.layout.now.places.now) c.args.layout.now.extent.total) there
