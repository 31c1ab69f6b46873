use Rattle.std.proofs.Common.{◌∙◌, ap, length, subst, sym}
use Rattle.std.specs.FinMap.{entries}
use Rattle.msi_database_changes.proofs.text_counts.RecountingLemmas.{many_counts}
use Rattle.msi_database_storage.specs.Kept.{Kept}
use Rattle.msi_database.specs.Keeping.{IsKeptDatabase}
use Rattle.msi_database.proofs.keeping.RecountingLemmas.{left_kept}
use Rattle.msi_database.proofs.database.Database.recount.Goals as goal

pub set_counts-changed-requires : goal.set_counts-changed-requires
set_counts-changed-requires c = ap length (c.counts.ensures ∙ c.in_ok-census.ensures.counts) ∙ many_counts c.args.self.now.database
    ∙ ap (λ (k : Kept). length k.database.pool.places) (sym c.self.view_is)

pub invariant_of-self : goal.invariant_of-self
invariant_of-self c = let d = c.self.inside in
    left_kept d.pool c.set_counts-changed.new.pool d.tables (entries d.streams) c.args.self.now c.self.view_is c.counts.result.now (c.counts.ensures ∙ c.in_ok-census.ensures.counts)
    c.set_counts-changed.ensures.pool (subst IsKeptDatabase c.self.view_is c.self.invariant.kept) c.self.invariant.as_long c.in_ok-census.ensures.ok

pub returns-clause-sound : goal.returns-clause-sound
returns-clause-sound c = let d = c.self.inside in
    sym (left_kept d.pool c.set_counts-changed.new.pool d.tables (entries d.streams) c.args.self.now c.self.view_is c.counts.result.now (c.counts.ensures ∙ c.in_ok-census.ensures.counts)
    c.set_counts-changed.ensures.pool (subst IsKeptDatabase c.self.view_is c.self.invariant.kept) c.self.invariant.as_long c.in_ok-census.ensures.ok).known
