use Rattle.std.proofs.Common.{ap, sym, ◌∙◌, is_some}
use Rattle.std.specs.FinMap.{entries}
use Rattle.msi_database_storage.specs.Kept.{table_kept_at}
use Rattle.msi_database.proofs.keeping.TablesKeptLemmas.{has_table_kept}
use Rattle.msi_database.proofs.database.Database.has_table.Goals as goal

pub returns : goal.returns
returns c = rw (← c.self.view_is) (c.is_some.ensures ∙ c.table_named.ensures.known ∙ ap (λ ts. is_some (table_kept_at c.args.name.now ts)) c.as_slice.ensures
    ∙ sym (has_table_kept c.self.inside.pool c.self.inside.tables (entries c.self.inside.streams) c.args.name.now))
