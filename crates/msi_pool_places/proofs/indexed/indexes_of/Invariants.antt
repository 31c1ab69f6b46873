use Rattle.std.proofs.Common.{◌≤◌, take}
use Rattle.msi_pool_places.specs.PoolIndexes.{AreFree}
use Rattle.msi_pool_places.specs.TextIndexes.{AreOpen}
use Rattle.msi_pool_places.proofs.indexed.indexes_of.Given as goal

abbrev pub invariant-loop-at : goal.invariant-loop-at
invariant-loop-at l = record {
  are_free : AreFree l.free (take l.at l.places);
  are_open : AreOpen l.texts (take l.at l.places);
  few : l.operations ≤ l.at;
}
