use Rattle.std.proofs.Common.{ℕ, ◌+◌, arith}
use Rattle.msi_base.proofs.ResultLemmas.{on_err_from}
use Rattle.msi_container_write.specs.Image.{image_byte}
use Rattle.msi_container_write.specs.Index.{streams_of}
use Rattle.msi_container_write.specs.Layout.{mini_fat_run, parts_of}
use Rattle.msi_container_write.proofs.sectors.FailedLemmas.{still_so}
use Rattle.msi_container_write.proofs.sectors.SectorsHeldLemmas.{sector_in_part, sector_written}
use Rattle.msi_container_write.proofs.writing.write_sectors.Goals as goal

pub returns-in_err-write_all-clause-part : goal.returns-in_err-write_all-clause-part
returns-in_err-write_all-clause-part g c =
    let streams = streams_of c.args.layout.now.places.now in
    let byte : ℕ → ℕ = image_byte (parts_of c.args.layout.now.clsid streams) (mini_fat_run streams) c.args.layout.now.extent.total in
    on_err_from c.from_residual.result
    (sector_in_part byte c.loop-n.n (c.args.layout.now.extent.total + 1) c.fill.new.sector _ _ _ (omega arith) c.loop-n.invariant.held c.fill.ensures c.in_err-write_all.ensures.part)

pub loop-n-preserved : goal.loop-n-preserved
loop-n-preserved g c =
    let streams = streams_of c.args.layout.now.places.now in
    let byte : ℕ → ℕ = image_byte (parts_of c.args.layout.now.clsid streams) (mini_fat_run streams) c.args.layout.now.extent.total in
    record {
      held = sector_written byte c.loop-n.n c.fill.new.sector _ _ _ c.loop-n.invariant.held c.fill.ensures c.in_ok-write_all.ensures.ok;
      failed = still_so _ _ _ c.in_ok-write_all.ensures.failed c.loop-n.invariant.failed;
    }
