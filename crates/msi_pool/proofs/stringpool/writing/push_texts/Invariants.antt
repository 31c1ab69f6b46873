use Rattle.std.proofs.Common.{◌≡◌, ◌++◌, take}
use Rattle.std.specs.List.{flat_map}
use Rattle.msi_pool.specs.PoolWriting.{piece_of}
use Rattle.msi_pool.proofs.stringpool.writing.push_texts.Given as goal

abbrev pub invariant-loop-at : goal.invariant-loop-at
invariant-loop-at l = l.held.items ≡ l.fn.held.items ++ flat_map (piece_of l.page) (take l.at l.pool.places)
