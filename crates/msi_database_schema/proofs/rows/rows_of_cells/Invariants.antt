use Rattle.std.proofs.Common.{◌≡◌, map, take}
use Rattle.msi_table_cells.specs.CellValues.{row_values}
use Rattle.msi_database_schema.proofs.rows.rows_of_cells.Given as goal

abbrev pub invariant-loop-row : goal.invariant-loop-row
invariant-loop-row l = l.seen.items ≡ map (row_values l.copies) (take l.row-index l.rows)
