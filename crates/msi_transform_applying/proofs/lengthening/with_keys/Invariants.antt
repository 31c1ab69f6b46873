use Rattle.std.proofs.Common.{◌≡◌, ◌++◌, length, map}
use Rattle.std.specs.Vec.Iter.{into_iter_items, into_iter_len}
use Rattle.msi_transform_rows.specs.RowChanges.{keyed}
use Rattle.msi_transform_applying.proofs.lengthening.with_keys.Given as goal

-- with the rows to come there are all
abbrev pub invariant-loop-row : goal.invariant-loop-row
invariant-loop-row l = record {
  far : l.all.items ++ map (keyed l.columns l.change.database.pool.places) (into_iter_items l.row-iterator)
      ≡ map (keyed l.columns l.change.database.pool.places) (into_iter_items l.initial.row-iterator);
  left : into_iter_len l.row-iterator ≡ length (into_iter_items l.row-iterator);
}
