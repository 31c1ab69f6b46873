use Rattle.std.proofs.Common.{◌-◌, ◌≡◌, ◌<◌, ◌≤◌, ℕ, false}
use Rattle.std.specs.Int.{div_ceil}
use Rattle.msi_container_write.specs.Image.{suffices}
use Rattle.msi_container_write.proofs.totals.least_total.Given as goal

abbrev pub invariant-loop-total : goal.invariant-loop-total
invariant-loop-total l = record {
  long : div_ceil l.earlier_len 512 - 1 ≤ l.total;
  failed : (t : ℕ) → t < l.total → suffices l.taken l.earlier_len t ≡ false;
}

abbrev pub decreases-loop-total : goal.decreases-loop-total
decreases-loop-total l = 4194304 - l.total
