use Rattle.std.proofs.Common.{◌∙◌, [], ◌∷◌, ap}
use Rattle.msi_database_changes.specs.Texts.{settled}
use Rattle.msi_database.proofs.FreshMadeLemmas.{fresh_settled}
use Rattle.msi_database.proofs.fresh.new_tables.Goals as goal

pub returns-clause-tables : goal.returns-clause-tables
returns-clause-tables c = c.from_vec.ensures ∙ c.in_ok-tables.ensures.items ∙ (λ i. c.in_ok-system.ensures.columns i ∷ c.in_ok-system.ensures.tables i ∷ c.in_ok-system.ensures.validation i ∷ [])

pub returns-clause-pool : goal.returns-clause-pool
returns-clause-pool c = c.into_pool.ensures ∙ ap settled c.in_ok-stored.ensures.pool ∙ fresh_settled
