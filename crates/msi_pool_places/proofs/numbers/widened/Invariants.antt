use Rattle.std.proofs.Common.{◌≡◌, take}
use Rattle.msi_pool_places.proofs.numbers.widened.Given as goal

abbrev pub invariant-loop-number : goal.invariant-loop-number
invariant-loop-number l = l.wide.items ≡ take l.number-index l.narrow.items
