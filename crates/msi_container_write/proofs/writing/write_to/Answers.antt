use Rattle.std.proofs.Common.{◌≡◌, subst}
use Rattle.std.specs.Prelude.{IsErrOf, IsTrue, OnErr, OnOk, option_map, ◌↔◌}
use Rattle.msi_base.specs.declared.errors.ErrorKind.TheVariants.{InvalidInput}
use Rattle.msi_container_format.specs.declared.contents.Contents.{Contents}
use Rattle.msi_container_format.specs.Container.{Holds}
use Rattle.msi_container_write.specs.Layout as spec
use Rattle.msi_container_device.specs.Held.{StandsInPart, with_piece}
use Rattle.msi_container_write.proofs.writing.write_to.Goals as goal

pub returns-clause-ok : goal.returns-clause-ok
returns-clause-ok g c = subst
    (λ (held : Contents). OnOk c.image_to.result (g.W.Source.held c.image_to.new.device ≡ option_map (with_piece (spec.layout held c.args.earlier_len)) (g.W.Source.held c.args.device.now)))
    c.borrowed.ensures c.image_to.ensures.ok

pub returns-clause-holds : goal.returns-clause-holds
returns-clause-holds g c = subst (λ (held : Contents). OnOk c.image_to.result (Holds (spec.layout held c.args.earlier_len) held))
    c.borrowed.ensures c.image_to.ensures.holds

pub returns-clause-part : goal.returns-clause-part
returns-clause-part g c = subst
    (λ (held : Contents). OnErr c.image_to.result (StandsInPart (spec.layout held c.args.earlier_len) (g.W.Source.held c.args.device.now) (g.W.Source.held c.image_to.new.device)))
    c.borrowed.ensures c.image_to.ensures.part

pub returns-clause-refused : goal.returns-clause-refused
returns-clause-refused g c = subst (λ (held : Contents). IsErrOf c.image_to.result InvalidInput ↔ IsTrue (spec.refuses held c.args.earlier_len))
    c.borrowed.ensures c.image_to.ensures.refused
