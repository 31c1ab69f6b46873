use Rattle.std.proofs.Common.{ap, sym, ◌∙◌}
use Rattle.std.specs.FinMap.{entries}
use Rattle.msi_database_storage.specs.Kept.{table_kept_at}
use Rattle.msi_database.proofs.keeping.TablesKeptLemmas.{table_def_kept}
use Rattle.msi_database.proofs.database.Database.get_table.Goals as goal

pub returns : goal.returns
returns c = rw (← c.self.view_is) (c.table_named.ensures.found ∙ ap (table_kept_at c.args.name.now) c.as_slice.ensures
    ∙ sym (table_def_kept c.self.inside.pool c.self.inside.tables (entries c.self.inside.streams) c.args.name.now c.self.invariant.as_long))
