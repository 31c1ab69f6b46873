use Rattle.std.proofs.Common.{◌≡◌, take}
use Rattle.msi_database_changes.specs.KeySets.{keys_of_rows}
use Rattle.msi_transform_applying.proofs.table_applying.keys_of.Given as goal

abbrev pub invariant-loop-row : goal.invariant-loop-row
invariant-loop-row l = record {
  keys : l.keys.items ≡ keys_of_rows l.change.database.pool.places l.columns (take l.row-index l.rows);
}
