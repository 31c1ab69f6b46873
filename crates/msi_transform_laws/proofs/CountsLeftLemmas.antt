-- The counts of the pool that is left once a transform that is made is applied.
use Rattle.std.proofs.Common.{◌≡◌, ℕ, ◌<◌, sym, subst, ◌∙◌}
use Rattle.msi_pool.specs.FirstFitLaws.{count_at, TakenPlacesHoldTheirText, GivenBackTakesOne}
use Rattle.msi_database_schema.proofs.AccountLemmas.{room_at}
use Rattle.msi_transform_applying.specs.Applying.{TablesChanged, changed_with, tables_left}
use Rattle.msi_transform_laws.specs.CountsLeft.{MadeCountsAreExact}
use Rattle.msi_transform_laws.specs.TablesChanged.{cells_anew}
use Rattle.msi_transform_laws.proofs.AppliedRecordsLemmas.{same_answer}
use Rattle.msi_transform_laws.proofs.WholeRunLemmas.{whole_run}

pub made_counts_are_exact : TakenPlacesHoldTheirText → GivenBackTakesOne → MadeCountsAreExact
made_counts_are_exact takes gives p t passing changed is exact order ready ran =
    let (told, after, ran_too, new, ends, counts) = whole_run takes gives p t passing is exact order ready in
    subst (λ (c : TablesChanged). (number : ℕ) → 0 < number → count_at c.tables.pool.places number ≡ cells_anew (tables_left p.old.database c.told c.tables) number)
    (same_answer (changed_with told after) changed (sym ran_too ∙ ran))
    (λ number one. sym (room_at after.pool.places number one) ∙ counts number)
