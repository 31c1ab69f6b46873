use Rattle.msi_table_cells.specs.CellOrderLaws.{cell_cmp-total, cells_tie}
use Rattle.msi_table_cells.proofs.laws.cells_are_ordered.Goals as goal

pub returns : goal.returns
returns c = (cell_cmp-total, cells_tie)
