use Rattle.std.proofs.Common.{ℕ, Vec, Global, sym, subst}
use Rattle.msi_container_format.specs.Container.{Holds}
use Rattle.msi_container_read.proofs.reading.read_shared.Goals as goal

pub returns-clause-only : goal.returns-clause-only
returns-clause-only c contents held =
    c.read_root.ensures.only contents
    (subst (λ bytes. Holds bytes contents) (sym c.as_slice.ensures.value)
    (subst (λ (whole : Vec ℕ Global). Holds whole.items contents) (sym c.deref.ensures) held))
