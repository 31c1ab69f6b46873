use Rattle.std.proofs.Common.{◌∙◌}
use Rattle.std.specs.Vec.Iter.{into_iter_items}
use Rattle.msi_database.proofs.opening.FreshKeptLemmas.{fresh_parts, names_are_own}
use Rattle.msi_database.proofs.database.Database.new.Goals as goal

pub store_all-requires : goal.store_all-requires
store_all-requires c = names_are_own (into_iter_items c.into_iter.result) c.in_ok-tables.field-0.stored.items c.into_iter.ensures.rest c.in_ok-tables.ensures.stored

pub invariant_of-result : goal.invariant_of-result
invariant_of-result c = (fresh_parts c.in_ok-tables.field-0.pool c.in_ok-tables.field-0.tables c.new-streams.result c.store_all.new.streams (into_iter_items c.into_iter.result)
    c.in_ok-tables.ensures.pool c.in_ok-tables.ensures.tables c.new-streams.ensures (c.into_iter.ensures.rest ∙ c.in_ok-tables.ensures.stored) c.in_ok-store_all.ensures.ok).1

pub returns-clause-ok : goal.returns-clause-ok
returns-clause-ok c = (fresh_parts c.in_ok-tables.field-0.pool c.in_ok-tables.field-0.tables c.new-streams.result c.store_all.new.streams (into_iter_items c.into_iter.result)
    c.in_ok-tables.ensures.pool c.in_ok-tables.ensures.tables c.new-streams.ensures (c.into_iter.ensures.rest ∙ c.in_ok-tables.ensures.stored) c.in_ok-store_all.ensures.ok).0
