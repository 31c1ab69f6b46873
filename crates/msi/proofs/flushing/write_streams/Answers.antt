use Rattle.std.proofs.Common.{◌∙◌, subst}
use Rattle.msi_container_format.specs.declared.contents.Contents.{Contents}
use Rattle.msi.specs.Flushing.{Overwrites, told}
use Rattle.msi.proofs.writing.RenewedLemmas.{root_contents_are}
use Rattle.msi.proofs.flushing.write_streams.Goals as goal

pub returns-clause-device : goal.returns-clause-device
returns-clause-device g c = subst
    (λ (k : Contents). Overwrites k (told (g.F.Source.held c.args.device.now) (g.F.Source.failed c.args.device.now)) c.write_image.result
    (told (g.F.Source.held c.write_image.new.device) (g.F.Source.failed c.write_image.new.device)))
    (c.contents_under-contents.ensures
    ∙ root_contents_are c.args.root.kind c.args.root.has_storages c.clsid.result c.streams.result.now c.args.database.now.streams c.clsid.ensures c.streams.ensures)
    c.write_image.ensures.device
