use Rattle.std.proofs.Common.{◌≡◌, ℕ, ◌+◌, ◌<◌, ◌≤◌}
use Rattle.msi_container_write.specs.Balance.{left_link, right_link}
use Rattle.msi_container_write.proofs.balance.links.Given as goal

abbrev pub invariant-loop-lo : goal.invariant-loop-lo
invariant-loop-lo l = record {
  from : l.lo ≤ l.k;
  to : l.k < l.lo + l.count;
  within : l.lo + l.count ≤ l.n + 1;
  left : (depth : ℕ) × (l.count ≤ depth) × (left_link l.n 1 l.n l.k ≡ left_link depth l.lo l.count l.k) × (right_link l.n 1 l.n l.k ≡ right_link depth l.lo l.count l.k);
}

abbrev pub decreases-loop-lo : goal.decreases-loop-lo
decreases-loop-lo l = l.count
