use Rattle.std.proofs.Common.{ℕ, List}
use Rattle.msi_container_format.specs.Container.{fat_of}
use Rattle.msi_container_read.proofs.plans.PlanPartsLemmas.{start_of_directory}
use Rattle.msi_container_read.proofs.plans.OutlineLemmas.{limits_are}
use Rattle.msi_container_tables.proofs.parts.PassedLemmas.{view_weaker}
use Rattle.msi_container_read.proofs.storages.read_directory.Goals as goal

pub returns-clause-only : goal.returns-clause-only
returns-clause-only c = λ difat directory h.
    let bytes = c.args.bytes.now in
    let limits = limits_are bytes _ _ c.in_ok-claims.ensures.limit c.sector_count.ensures.within c.sector_count.ensures.all in
    let whole = c.read_start.ensures.only difat (fat_of bytes difat) directory (start_of_directory bytes _ difat directory limits h) in
    view_weaker (λ (q : List ℕ × List ℕ × List ℕ). q.2) _ c.read_start.result _ whole
