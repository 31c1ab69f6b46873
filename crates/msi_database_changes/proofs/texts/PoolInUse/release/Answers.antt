use Rattle.std.proofs.Common.{sym, ◌∙◌}
use Rattle.msi_database_changes.proofs.text_counts.NarrowLemmas.{same_long}
use Rattle.msi_database_changes.proofs.texts.PoolInUse.release.Goals as goal

pub invariant_of-self : goal.invariant_of-self
invariant_of-self c = c.give_back.ensures.long ∙ c.self.invariant
    ∙ sym (same_long c.self.inside.was_long c.self.inside.pool.places c.give_back.new.pool.places c.give_back.ensures.many)
