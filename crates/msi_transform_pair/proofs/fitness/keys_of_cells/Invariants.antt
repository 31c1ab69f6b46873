use Rattle.std.proofs.Common.{◌≡◌, map, take}
use Rattle.msi_table_cells.specs.CellValues.{row_values}
use Rattle.msi_table_cells.specs.KeyOrder.{key_of}
use Rattle.msi_transform_pair.proofs.fitness.keys_of_cells.Given as goal

abbrev pub invariant-loop-row : goal.invariant-loop-row
invariant-loop-row l = record {
  keys : l.keys.items ≡ map (λ row. key_of l.columns (row_values l.pool.places row)) (take l.row-index l.rows);
}
