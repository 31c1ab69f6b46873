use Rattle.std.proofs.Common.{◌∙◌, ap}
use Rattle.std.specs.FinMap.{entries}
use Rattle.msi_database_changes.specs.Database.{has_table}
use Rattle.msi_transform_schema.specs.SchemaChanges.{SchemaChange}
use Rattle.msi_transform_schema.proofs.PackagePartsLemmas.{known}
use Rattle.msi_transform_schema.proofs.schema_change.SchemaChange.has_table.Goals as goal

pub returns : goal.returns
returns c = let p = c.self.inside in
    c.is_some.ensures ∙ c.table_named.ensures.known ∙ known p.pool.now p.tables.now (entries p.streams.now) c.args.name.now
    ∙ ap (λ (d : SchemaChange). has_table c.args.name.now d.database) c.self.view_is
