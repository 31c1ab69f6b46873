use Rattle.msi_table_cells.proofs.SortedRowsLemmas.{stored_sorted}
use Rattle.msi_table_cells.proofs.laws.stored_rows_are_sorted.Goals as goal

pub returns : goal.returns
returns c = stored_sorted
