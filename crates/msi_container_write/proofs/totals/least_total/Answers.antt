use Rattle.std.proofs.Common.{◌≤◌, ◌+◌, ◌*◌, sym, arith}
use Rattle.std.proofs.lemmas.Grind.{div_ceil_times}
use Rattle.msi_container_write.specs.Image.{least_total, fat_sectors, difat_sectors}
use Rattle.msi_container_write.proofs.placing.TotalsLemmas.{suffices_with, total_is, total_past}
use Rattle.msi_container_write.proofs.totals.least_total.Goals as goal

pub returns-then-needed-total-clause-some : goal.returns-then-needed-total-clause-some
returns-then-needed-total-clause-some c =
    let taken = c.args.taken in
    let earlier = c.args.earlier_len in
    let total = c.loop-total.total in
    let room : taken + fat_sectors total + difat_sectors total ≤ total = omega (arith, c.fat_sectors.ensures, c.difat_sectors.ensures, c.if-needed-total.true) in
    let units = div_ceil_times earlier 512 (omega arith) in
    let long : earlier ≤ 512 * (total + 1) = omega (arith, c.loop-total.invariant.long) in
    sym (total_is taken earlier total (suffices_with taken earlier total room long) c.loop-total.invariant.failed)

pub returns-clause-none : goal.returns-clause-none
returns-clause-none c _ =
    let past : c.loop-total.total ≤ least_total c.args.taken c.args.earlier_len = total_past c.args.taken c.args.earlier_len c.loop-total.total c.loop-total.invariant.failed in
    omega (arith, c.loop-total-test.false)
