use Rattle.std.proofs.Common.{◌∙◌, ap}
use Rattle.std.specs.FinMap.{entries}
use Rattle.msi_database_changes.specs.Database.{has_table}
use Rattle.msi_transform_schema.proofs.PackagePartsLemmas.{known}
use Rattle.msi_transform_pair.specs.Pair.{Side}
use Rattle.msi_transform_pair.proofs.base.Base.has_table.Goals as goal

pub returns : goal.returns
returns c = let p = c.self.inside in
    c.is_some.ensures ∙ c.table_named.ensures.known ∙ known p.pool.now p.tables.now (entries p.streams.now) c.args.name.now
    ∙ ap (λ (s : Side). has_table c.args.name.now s.kept.database) c.self.view_is
