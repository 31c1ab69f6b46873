use Rattle.std.proofs.Common.{◌∙◌, ap}
use Rattle.std.specs.FinMap.{entries}
use Rattle.msi_transform_schema.specs.TablesInHand.{named}
use Rattle.msi_transform_schema.proofs.TablesByNameLemmas.{entries_listed}
use Rattle.msi_transform_schema.proofs.tables_by_name.TablesByName.iter.Goals as goal

pub returns : goal.returns
returns c = ap named c.iter.ensures.rest ∙ entries_listed c.self.inside.map.entries c.iter.ensures.ordered ∙ ap entries c.self.view_is
