use Rattle.std.proofs.Common.{◌∙◌, ap, length}
use Rattle.msi_transform_pair.proofs.ToldRowsLemmas.{entries_in_order}
use Rattle.msi_transform_pair.proofs.told.ToldRows.iter.Goals as goal

pub returns-clause-rest : goal.returns-clause-rest
returns-clause-rest c = c.iter.ensures.rest ∙ entries_in_order c.self.inside.map.entries c.args.self.now c.self.view_is c.iter.ensures.ordered

pub returns-clause-len : goal.returns-clause-len
returns-clause-len c = ap length (returns-clause-rest c)
