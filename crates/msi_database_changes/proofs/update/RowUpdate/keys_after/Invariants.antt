use Rattle.std.proofs.Common.{◌≡◌, map, take}
use Rattle.msi_table_cells.specs.CellValues.{row_values}
use Rattle.msi_table_cells.specs.KeyOrder.{key_of}
use Rattle.msi_database_changes.specs.RowUpdates.{row_set}
use Rattle.msi_database_changes.proofs.update.RowUpdate.keys_after.Given as goal

abbrev pub invariant-loop-row : goal.invariant-loop-row
invariant-loop-row l = record {
  keys : l.keys.items
      ≡ map (λ row. key_of l.self.columns (row_set l.self (row_values l.pool.places row))) (take l.row-index l.rows);
}
