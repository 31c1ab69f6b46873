use Rattle.std.proofs.Common.{Vec, Global, ℕ, ap, ◌∙◌}
use Rattle.msi_base.proofs.PartLemmas.{gone_on}
use Rattle.msi_base.proofs.part.Part.take_in.Goals as goal

pub returns-then-are_next-clause-taken : goal.returns-then-are_next-clause-taken
returns-then-are_next-clause-taken c = λ so.
    let part = c.self.inside in
    let same = c.as_slice.ensures.value ∙ ap (λ (v : Vec ℕ Global). v.items) c.deref.ensures in
    rw (← c.self.view_is) (gone_on c.as_slice.result.now part.whole.value.items c.args.bytes.now part.start part.end c.starts_with-are_next.result same c.self.invariant.0 c.starts_with-are_next.ensures.value so)
