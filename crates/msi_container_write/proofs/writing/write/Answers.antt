use Rattle.std.proofs.Common.{◌≡◌, subst}
use Rattle.std.specs.Prelude.{IfOk, IsErrOf, IsTrue, ◌↔◌}
use Rattle.msi_base.specs.declared.errors.ErrorKind.TheVariants.{InvalidInput}
use Rattle.msi_container_format.specs.declared.contents.Contents.{Contents}
use Rattle.msi_container_format.specs.Container.{Holds}
use Rattle.msi_container_write.specs.Layout as spec
use Rattle.msi_container_write.proofs.writing.write.Goals as goal

pub returns-clause-ok : goal.returns-clause-ok
returns-clause-ok c = subst (λ (held : Contents). IfOk c.image_of.result (λ image. image.items ≡ spec.layout held c.args.earlier_len))
    c.borrowed.ensures c.image_of.ensures.ok

pub returns-clause-holds : goal.returns-clause-holds
returns-clause-holds c = subst (λ (held : Contents). IfOk c.image_of.result (λ image. Holds image.items held))
    c.borrowed.ensures c.image_of.ensures.holds

pub returns-clause-refused : goal.returns-clause-refused
returns-clause-refused c = subst (λ (held : Contents). IsErrOf c.image_of.result InvalidInput ↔ IsTrue (spec.refuses held c.args.earlier_len))
    c.borrowed.ensures c.image_of.ensures.refused
