-- The texts that are left once a transform that is made is applied.
use Rattle.std.proofs.Common.{◌≡◌, true, sym, subst, ◌∙◌}
use Rattle.msi_pool.specs.FirstFitLaws.{TakenPlacesHoldTheirText, GivenBackTakesOne}
use Rattle.msi_transform_applying.specs.Applying.{TablesChanged, changed_with, pool_left, texts_read_back}
use Rattle.msi_transform_laws.specs.TextsLeft.{MadeTextsAreReadBack}
use Rattle.msi_transform_laws.proofs.AppliedRecordsLemmas.{same_answer}
use Rattle.msi_transform_laws.proofs.WholeRunLemmas.{all_texts_read, whole_run}

pub made_texts_are_read_back : TakenPlacesHoldTheirText → GivenBackTakesOne → MadeTextsAreReadBack
made_texts_are_read_back takes gives p t passing changed is exact order ready ran =
    let (told, after, ran_too, new, ends, counts) = whole_run takes gives p t passing is exact order ready in
    subst (λ (c : TablesChanged). texts_read_back (pool_left p.old.database.pool t c.tables.pool) ≡ true) (same_answer (changed_with told after) changed (sym ran_too ∙ ran))
    (all_texts_read p t passing is ready after ends)
