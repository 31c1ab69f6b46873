use Rattle.msi_pool_places.proofs.TextIndexLemmas.{left_out}
use Rattle.msi_pool_places.proofs.texts.TextIndex.remove.Goals as goal

pub returns-clause-removed : goal.returns-clause-removed
returns-clause-removed c = left_out c.args.entry.now c.self.inside.entries.keys c.remove.new.self.keys c.args.self.now c.self.view_is c.remove.ensures.updates.0
