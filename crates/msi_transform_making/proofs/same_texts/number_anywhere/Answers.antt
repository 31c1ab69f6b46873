use Rattle.std.proofs.Common.{◌<◌, ◌∙◌, ℕ, ap, subst, sym}
use Rattle.msi_pool.specs.FirstFitLaws.{text_at}
use Rattle.msi_transform_making.proofs.same_texts.number_anywhere.Goals as goal

pub returns-then-other-gt0 : goal.returns-then-other-gt0
returns-then-other-gt0 c = λ h.
    c.requires.near c.args.number (subst (λ (m : ℕ). 0 < m) c.number_at-other.ensures h) ∙ ap (text_at c.args.new.now.places) (sym c.number_at-other.ensures)
