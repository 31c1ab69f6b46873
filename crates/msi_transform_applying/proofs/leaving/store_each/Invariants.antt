use Rattle.std.proofs.Common.{◌≡◌, length}
use Rattle.std.specs.FinMap.{entries}
use Rattle.std.specs.Vec.Iter.{into_iter_items, into_iter_len}
use Rattle.msi_database_storage.specs.Storing.{stored_in}
use Rattle.msi_transform_applying.proofs.leaving.store_each.Given as goal

-- the streams that are left, stored too, give the whole
abbrev pub invariant-loop-stream : goal.invariant-loop-stream
invariant-loop-stream l = record {
  whole : stored_in (into_iter_items l.stream-iterator) (entries l.streams) ≡ stored_in (into_iter_items l.initial.stream-iterator) (entries l.initial.streams);
  left : into_iter_len l.stream-iterator ≡ length (into_iter_items l.stream-iterator);
}
