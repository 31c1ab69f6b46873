use Rattle.std.proofs.Common.{sym, ◌∙◌}
use Rattle.std.specs.FinMap.{entries}
use Rattle.msi_database.proofs.keeping.TablesKeptLemmas.{listed_kept}
use Rattle.msi_database.proofs.database.Database.tables.Goals as goal

pub returns : goal.returns
returns c = rw (← c.self.view_is) (c.as_slice.ensures ∙ sym (listed_kept c.self.inside.pool c.self.inside.tables (entries c.self.inside.streams) c.self.invariant.as_long))
