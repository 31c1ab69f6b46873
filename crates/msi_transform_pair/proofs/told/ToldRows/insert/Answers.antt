use Rattle.msi_transform_pair.proofs.ToldRowsLemmas.{entries_updated}
use Rattle.msi_transform_pair.proofs.told.ToldRows.insert.Goals as goal

pub returns-clause-ok : goal.returns-clause-ok
returns-clause-ok c = entries_updated c.self.inside.map.entries _ c.args.self.now c.args.key c.args.row c.self.view_is c.in_ok-insert.ensures.updates.0
