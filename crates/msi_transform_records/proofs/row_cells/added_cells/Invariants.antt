use Rattle.std.proofs.Common.{◌≡◌}
use Rattle.msi_base.specs.Lists.{tabulated}
use Rattle.msi_table_cells.specs.Fitting.{cell_of}
use Rattle.msi_transform_records.proofs.row_cells.added_cells.Given as goal

abbrev pub invariant-loop-i : goal.invariant-loop-i
invariant-loop-i l = l.row.items ≡ tabulated l.i (cell_of l.cells)
