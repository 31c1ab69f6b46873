use Rattle.msi_pool_places.proofs.TextIndexLemmas.{entered}
use Rattle.msi_pool_places.proofs.texts.TextIndex.insert.Goals as goal

pub returns-clause-ok : goal.returns-clause-ok
returns-clause-ok c = entered c.args.entry c.self.inside.entries.keys c.insert.new.self.keys c.args.self.now c.self.view_is c.in_ok-insert.ensures.updates.0
