use Rattle.std.proofs.Common.{◌∙◌}
use Rattle.msi_transform_pair.proofs.ToldRowsLemmas.{row_of_entries}
use Rattle.msi_transform_pair.proofs.told.ToldRows.get.Goals as goal

pub returns : goal.returns
returns c = c.get.ensures.value ∙ row_of_entries c.self.inside.map.entries c.args.self.now c.args.key.now c.self.view_is
