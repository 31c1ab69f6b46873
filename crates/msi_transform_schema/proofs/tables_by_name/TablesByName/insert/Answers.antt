use Rattle.std.proofs.Common.{◌∙◌, ap}
use Rattle.std.specs.FinMap.{entries, put}
use Rattle.msi_base.specs.Lists.{list_cmp}
use Rattle.msi_transform_schema.proofs.TablesByNameLemmas.{entries_put}
use Rattle.msi_transform_schema.proofs.tables_by_name.TablesByName.insert.Goals as goal

pub returns-clause-ok : goal.returns-clause-ok
returns-clause-ok c = entries_put c.self.inside.map c.insert.new.self c.args.name.now c.args.table c.in_ok-insert.ensures.updates
    ∙ ap (λ m. put list_cmp c.args.name.now c.args.table (entries m)) c.self.view_is
