use Rattle.std.proofs.Common.{◌≡◌, ◌++◌, length}
use Rattle.std.specs.Vec.Iter.{into_iter_items, into_iter_len}
use Rattle.msi_database_changes.proofs.insert.values_of.Given as goal

abbrev pub invariant-loop-row : goal.invariant-loop-row
invariant-loop-row l = record {
  far : l.values.items ++ into_iter_items l.row-iterator ≡ into_iter_items l.initial.row-iterator;
  left : into_iter_len l.row-iterator ≡ length (into_iter_items l.row-iterator);
}
