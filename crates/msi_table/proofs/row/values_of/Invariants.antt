use Rattle.std.proofs.Common.{◌≡◌, map, take}
use Rattle.msi_table_cells.specs.CellValues.{value_of_cell}
use Rattle.msi_table.proofs.row.values_of.Given as goal

abbrev pub invariant-loop-cell : goal.invariant-loop-cell
invariant-loop-cell l = record {
  values : l.values.items ≡ map (value_of_cell l.pool.places) (take l.cell-index l.cells);
}
