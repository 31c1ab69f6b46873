use Rattle.std.proofs.Common.{◌∙◌, ap, sym, subst}
use Rattle.msi_code_pages.specs.Spelling.{IsIndex, number_of}
use Rattle.msi_code_pages.proofs.IndexLemmas.{looked_up, looked_past}
use Rattle.msi_code_pages.proofs.encoder.Encoder.number_of.Goals as goal

pub returns-in-Some : goal.returns-in-Some
returns-in-Some c =
    let index = subst (λ ns. IsIndex c.self.inside.page 0x10000 ns) (sym c.deref.ensures.value) c.self.invariant in
    looked_up c.self.inside.page c.deref.result.now c.args.character c.in-Some.number.now index c.in-Some.ensures.lookup.3.0 c.in-Some.ensures.lookup.1
    ∙ ap (λ p. number_of p c.args.character) c.self.view_is

pub returns-in-None : goal.returns-in-None
returns-in-None c =
    let index = subst (λ ns. IsIndex c.self.inside.page 0x10000 ns) (sym c.deref.ensures.value) c.self.invariant in
    looked_past c.self.inside.page c.deref.result.now c.args.character index c.in-None.ensures.lookup.3
    ∙ ap (λ p. number_of p c.args.character) c.self.view_is
