use Rattle.std.proofs.Common.{◌≡◌, ℕ, ◌+◌, ◌-◌, ◌<◌, ◌≤◌, length, get_or}
use Rattle.msi_container_view.proofs.extents.run_len.Given as goal

abbrev pub invariant-loop-len : goal.invariant-loop-len
invariant-loop-len l =
    (0 < l.len) × (l.len ≤ length l.sectors) × ((k : ℕ) → k < l.len → get_or l.sectors k 0 ≡ get_or l.sectors 0 0 + k)

abbrev pub decreases-loop-len : goal.decreases-loop-len
decreases-loop-len l = length l.sectors - l.len
