use Rattle.std.proofs.Common.{◌≡◌, length, map}
use Rattle.std.specs.FinMap.{entries}
use Rattle.std.specs.List.{AllByRecursion}
use Rattle.std.specs.Vec.Iter.{into_iter_items, into_iter_len}
use Rattle.msi_database_storage.specs.Storing.{stored_in}
use Rattle.msi_transform_applying.specs.Applying.{table_stored}
use Rattle.msi_transform_applying.specs.LeftInHand.{CanBeStored}
use Rattle.msi_transform_applying.proofs.leaving.store_tables.Given as goal

-- the tables that are left, stored too, give the whole
abbrev pub invariant-loop-table : goal.invariant-loop-table
invariant-loop-table l = record {
  whole : stored_in (map (table_stored l.long) (into_iter_items l.table-iterator)) (entries l.streams)
      ≡ stored_in (map (table_stored l.long) (into_iter_items l.initial.table-iterator)) (entries l.initial.streams);
  named : AllByRecursion CanBeStored (into_iter_items l.table-iterator);
  left : into_iter_len l.table-iterator ≡ length (into_iter_items l.table-iterator);
}
