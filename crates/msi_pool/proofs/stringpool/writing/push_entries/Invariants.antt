use Rattle.std.proofs.Common.{◌≡◌, ◌++◌, take}
use Rattle.std.specs.List.{flat_map}
use Rattle.msi_pool.specs.PoolWriting.{entry_in}
use Rattle.msi_pool.proofs.stringpool.writing.push_entries.Given as goal

abbrev pub invariant-loop-at : goal.invariant-loop-at
invariant-loop-at l = l.held.items ≡ l.fn.held.items ++ flat_map (entry_in l.page) (take l.at l.pool.places)
