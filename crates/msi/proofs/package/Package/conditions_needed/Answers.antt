use Rattle.std.proofs.Common.{ap, sym, ◌∙◌}
use Rattle.msi_transform_making.specs.Making.{Pair}
use Rattle.msi.specs.TransformMaking.{conditions_needed}
use Rattle.msi.proofs.packages.TransformMakingLemmas.{pair_is}
use Rattle.msi.proofs.package.Package.conditions_needed.Goals as goal

pub returns-clause-needed : goal.returns-clause-needed
returns-clause-needed g c = c.conditions_between.ensures ∙ ap (λ (p : Pair). conditions_needed p)
    (sym (pair_is c.args.self.now c.args.new.now _ c.self.view_is _ c.new.view_is c.settle.new.database c.settle-2.new.database c.settle.ensures.database c.settle-2.ensures.database
    c.stored_page-page_id.result c.stored_page-new_page_id.result c.stored_page-page_id.ensures c.stored_page-new_page_id.ensures))
