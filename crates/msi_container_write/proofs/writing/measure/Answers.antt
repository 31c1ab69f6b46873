use Rattle.std.proofs.Common.{◌≡◌, ◌+◌, ◌≤◌, ◌^◌, refl, ◌∙◌, ap, subst, arith}
use Rattle.std.specs.FinMap.{entries, len-entries}
use Rattle.msi_container_write.specs.Image.{least_total}
use Rattle.msi_container_write.specs.Layout.{taken_by}
use Rattle.msi_container_write.proofs.placing.LayoutLemmas.{taken_counted, large_total}
use Rattle.msi_container_write.proofs.writing.measure.Goals as goal
use Rattle.msi_container_write.proofs.writing.measure.Goals.{After-mini_stream_sectors}

-- what is taken
taken : (c : After-mini_stream_sectors) → c.directory_sectors.result + c.mini_fat_sectors.result + c.mini_stream_sectors.result + c.in_ok-counts.counts.large_sectors ≡ taken_by (entries c.args.streams.now)
taken c =
    taken_counted (entries c.args.streams.now) c.len.result c.in_ok-counts.counts.mini_sectors c.in_ok-counts.counts.large_sectors _ _ _
    (c.len.ensures ∙ len-entries c.args.streams.now)
    c.in_ok-counts.ensures.mini
    c.in_ok-counts.ensures.large
    c.directory_sectors.ensures
    c.mini_fat_sectors.ensures
    c.mini_stream_sectors.ensures

pub returns-in_err-counts-clause-none : goal.returns-in_err-counts-clause-none
returns-in_err-counts-clause-none c = λ _. large_total (taken_by (entries c.args.streams.now)) c.args.earlier_len (omega (arith, c.in_err-counts.ensures.none refl))

pub returns-then-taken-gt-MAX_SECTORS-clause-none : goal.returns-then-taken-gt-MAX_SECTORS-clause-none
returns-then-taken-gt-MAX_SECTORS-clause-none c =
    λ _. large_total (taken_by (entries c.args.streams.now)) c.args.earlier_len (omega (arith, taken (goal.at.returns-then-taken-gt-MAX_SECTORS-clause-none c).After-mini_stream_sectors))

pub returns-in_err-total-clause-none : goal.returns-in_err-total-clause-none
returns-in_err-total-clause-none c =
    λ _. subst (λ n. 2 ^ 22 ≤ least_total n c.args.earlier_len) (taken (goal.at.returns-in_err-total-clause-none c).After-mini_stream_sectors) (c.in_err-total.ensures.none refl)

pub returns-clause-total : goal.returns-clause-total
returns-clause-total c = c.in_ok-total.ensures.some ∙ ap (λ n. least_total n c.args.earlier_len) (taken (goal.at.returns-clause-total c).After-mini_stream_sectors)

pub returns-clause-taken : goal.returns-clause-taken
returns-clause-taken c = taken (goal.at.returns-clause-taken c).After-mini_stream_sectors
