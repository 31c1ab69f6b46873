use Rattle.std.proofs.Common.{sym, subst}
use Rattle.msi_code_pages.specs.Spelling.{IsIndex}
use Rattle.msi_code_pages.proofs.IndexLemmas.{empty}
use Rattle.msi_code_pages.proofs.page.Page.encoder.Goals as goal

pub fill-requires : goal.fill-requires
fill-requires c =
    subst (λ ns. IsIndex c.in_ok-decoder.decoder 0 ns) (sym c.deref_mut.ensures.value)
    (empty c.in_ok-decoder.decoder c.in_ok-numbers.numbers.items c.in_ok-numbers.ensures.size c.in_ok-numbers.ensures.none)
