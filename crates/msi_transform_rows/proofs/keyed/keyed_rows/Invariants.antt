use Rattle.std.proofs.Common.{◌≡◌, ◌++◌, map, length}
use Rattle.std.specs.Vec.Iter.{into_iter_items, into_iter_len}
use Rattle.std.specs.FinMap.{entries}
use Rattle.msi_transform_rows.specs.RowChanges.{by_key, keyed}
use Rattle.msi_transform_rows.proofs.KeyedRowsLemmas.{KeysAreApart}
use Rattle.msi_transform_rows.proofs.keyed.keyed_rows.Given as goal

abbrev pub invariant-loop-row : goal.invariant-loop-row
invariant-loop-row l = record {
  rows : entries l.by_keys ≡ by_key (map (keyed l.columns l.pool.places) l.yielded);
  distinct : KeysAreApart l.columns l.pool.places l.yielded;
  whole : into_iter_items l.initial.row-iterator ≡ l.yielded ++ into_iter_items l.row-iterator;
  left : into_iter_len l.row-iterator ≡ length (into_iter_items l.row-iterator);
}
