use Rattle.std.proofs.Common.{ℕ, Vec, Global, sym, subst}
use Rattle.msi_container_read.specs.Storages.{HoldsAt}
use Rattle.msi_container_read.proofs.reading.read_storage.Goals as goal

pub returns-clause-only : goal.returns-clause-only
returns-clause-only c contents held =
    c.read_from.ensures.only contents
    (subst (λ bytes. HoldsAt bytes c.args.path.now contents) (sym c.as_slice.ensures.value)
    (subst (λ (whole : Vec ℕ Global). HoldsAt whole.items c.args.path.now contents) (sym c.deref.ensures) held))
