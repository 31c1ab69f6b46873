use Rattle.std.proofs.Common.{◌≡◌, false, refl, sym, ◌∙◌, arith}
use Rattle.msi_container_write.specs.Layout.{refuses}
use Rattle.msi_container_write.proofs.placing.LayoutLemmas.{refused_large, accepted}
use Rattle.msi_container_write.specs.Borrowed.{contents_of}
use Rattle.msi_container_write.proofs.writing.check.Goals as goal

pub returns-in-Some-clause-refused : goal.returns-in-Some-clause-refused
returns-in-Some-clause-refused c =
    let few = c.in-Some.ensures.few in
    let total = c.in-Some.ensures.total in
    let not : refuses (contents_of c.args.contents.now) c.args.earlier_len ≡ false = accepted (contents_of c.args.contents.now) c.args.earlier_len c.if-contents.false (omega (arith, few, total)) in
    ((λ h. not ∙ h), (λ h. sym not ∙ h))

pub returns-in-None-clause-refused : goal.returns-in-None-clause-refused
returns-in-None-clause-refused c =
    ((λ _. refused_large (contents_of c.args.contents.now) c.args.earlier_len (c.in-None.ensures.none refl)), (λ _. refl))
