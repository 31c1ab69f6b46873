use Rattle.std.proofs.Common.{◌∙◌, ap}
use Rattle.std.specs.FinMap.{entries}
use Rattle.msi_transform_schema.proofs.PackagePartsLemmas.{columns_at, columns_found, no_columns}
use Rattle.msi_transform_pair.specs.Pair.{Side}
use Rattle.msi_transform_pair.proofs.base.Base.columns_of.Goals as goal

pub returns-in-Some-clause-value : goal.returns-in-Some-clause-value
returns-in-Some-clause-value c = let p = c.self.inside in
    c.columns.ensures.columns ∙ columns_found p.pool.now p.tables.now (entries p.streams.now) c.args.name.now c.in-Some.table.now c.in-Some.ensures.found
    ∙ ap (λ (s : Side). columns_at s.kept.database c.args.name.now) c.self.view_is

pub returns-in-None-clause-value : goal.returns-in-None-clause-value
returns-in-None-clause-value c = let p = c.self.inside in
    no_columns p.pool.now p.tables.now (entries p.streams.now) c.args.name.now c.in-None.ensures.found
    ∙ ap (λ (s : Side). columns_at s.kept.database c.args.name.now) c.self.view_is
