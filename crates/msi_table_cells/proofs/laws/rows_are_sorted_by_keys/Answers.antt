use Rattle.msi_table_cells.proofs.SortedRowsLemmas.{sorted_by_keys}
use Rattle.msi_table_cells.proofs.laws.rows_are_sorted_by_keys.Goals as goal

pub returns : goal.returns
returns c = sorted_by_keys
