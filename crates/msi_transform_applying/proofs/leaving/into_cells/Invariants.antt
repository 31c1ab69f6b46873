use Rattle.std.proofs.Common.{◌≡◌, ◌++◌}
use Rattle.std.specs.Vec.Iter.{into_iter_items}
use Rattle.msi_transform_rows.specs.RowChanges.{cells_of}
use Rattle.msi_transform_applying.proofs.leaving.into_cells.Given as goal

abbrev pub invariant-loop-row : goal.invariant-loop-row
invariant-loop-row l = record {
  cells : l.all.items ≡ cells_of l.yielded;
  whole : into_iter_items l.initial.row-iterator ≡ l.yielded ++ into_iter_items l.row-iterator;
}
