use Rattle.std.proofs.Common.{ℕ, ◌<◌}
use Rattle.std.specs.Prelude.{slice_index_or}
use Rattle.msi_table_values.specs.declared.column.ColumnType.TheVariants as coltype
use Rattle.msi_table_cells.specs.Fitting.{cell_of, FitsColumn}
use Rattle.msi_table_values.specs.Columns.{types_of}
use Rattle.msi_table_cells.proofs.fitting.fits_row.Given as goal

abbrev pub invariant-loop-i : goal.invariant-loop-i
invariant-loop-i l = (k : ℕ) → k < l.i → FitsColumn l.long (slice_index_or (types_of l.columns) k coltype.Int16) (cell_of l.row k)
