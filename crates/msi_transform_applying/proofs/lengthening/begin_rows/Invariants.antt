use Rattle.std.proofs.Common.{◌≡◌, ◌++◌, length, map}
use Rattle.std.specs.Vec.Iter.{into_iter_items, into_iter_len}
use Rattle.msi_transform_applying.specs.Applying.{lengthened_row}
use Rattle.msi_transform_applying.proofs.lengthening.begin_rows.Given as goal

-- with the rows to come there are all
abbrev pub invariant-loop-row : goal.invariant-loop-row
invariant-loop-row l = record {
  far : l.begun.items ++ map (lengthened_row l.columns l.table.added) (into_iter_items l.row-iterator)
      ≡ map (lengthened_row l.columns l.table.added) (into_iter_items l.initial.row-iterator);
  left : into_iter_len l.row-iterator ≡ length (into_iter_items l.row-iterator);
}
