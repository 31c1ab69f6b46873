use Rattle.std.specs.FinMap.{entries}
use Rattle.msi_database.proofs.keeping.PageLemmas.{kept_with_page}
use Rattle.msi_database.proofs.database.Database.set_codepage.Goals as goal

pub invariant_of-self : goal.invariant_of-self
invariant_of-self c = let d = c.self.inside in
    rw c.set_codepage.ensures (kept_with_page d.pool d.tables (entries d.streams) d.is_sound c.args.page c.self.invariant)
