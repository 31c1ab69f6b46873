use Rattle.std.proofs.Common.{◌∙◌, ap, map}
use Rattle.std.proofs.lemmas.Result.{IfOk-weaker}
use Rattle.std.specs.FinMap.{entries}
use Rattle.msi_transform_pair.specs.Pair.{Side}
use Rattle.msi_transform_pair.proofs.BaseLemmas.{names_kept}
use Rattle.msi_transform_pair.proofs.base.Base.names.Goals as goal

pub returns-clause-ok : goal.returns-clause-ok
returns-clause-ok c = let p = c.self.inside in
    IfOk-weaker c.names_of_tables.result _ _ (λ names is. is ∙ names_kept (entries p.streams.now) p.pool.now.long p.tables.now
    ∙ ap (λ (s : Side). map (λ t. t.0) s.kept.database.tables) c.self.view_is) c.names_of_tables.ensures.ok
