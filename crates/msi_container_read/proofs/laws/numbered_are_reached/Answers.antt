use Rattle.std.proofs.Common.{arith, refl}
use Rattle.msi_container_read.proofs.plans.ReachedLemmas.{listed_reached, reached_listed}
use Rattle.msi_container_read.proofs.laws.numbered_are_reached.Goals as goal

pub returns : goal.returns
returns c = λ bytes directory trees all k. (
  λ a. let r = listed_reached bytes directory trees all.turns k a in (r.0, record { root = all.root; leads = r.1 }),
  λ (path, p). reached_listed bytes directory trees all.turns path 0 k (0, omega arith, refl) p.leads,
)
