use Rattle.std.proofs.Common.{◌≡◌, take}
use Rattle.msi_table_cells.specs.CellValues.{row_values}
use Rattle.msi_database_changes.specs.Views.{seen_row}
use Rattle.msi_database_changes.proofs.views.views_of_cells.Given as goal

abbrev pub invariant-loop-cell : goal.invariant-loop-cell
invariant-loop-cell l = record {
  seen : seen_row l.views.items ≡ row_values l.pool.places (take l.cell-index l.row);
}
