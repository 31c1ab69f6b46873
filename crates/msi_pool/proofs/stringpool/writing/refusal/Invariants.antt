use Rattle.std.proofs.Common.{◌≡◌, false, take}
use Rattle.msi_pool.specs.PoolWriting.{has_refused_text}
use Rattle.msi_pool.proofs.stringpool.writing.refusal.Given as goal

abbrev pub invariant-loop-at : goal.invariant-loop-at
invariant-loop-at l = has_refused_text l.pool.page (take l.at l.pool.places) ≡ false
