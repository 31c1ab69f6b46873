use Rattle.std.proofs.Common.{◌∙◌, ap}
use Rattle.std.specs.FinMap.{entries, find}
use Rattle.msi_base.specs.Lists.{list_cmp}
use Rattle.msi_transform_schema.proofs.TablesByNameLemmas.{entries_found}
use Rattle.msi_transform_schema.proofs.tables_by_name.TablesByName.get.Goals as goal

pub returns : goal.returns
returns c = c.get.ensures.value
    ∙ entries_found c.self.inside.map.entries c.args.name.now
    ∙ ap (λ m. find list_cmp c.args.name.now (entries m)) c.self.view_is
