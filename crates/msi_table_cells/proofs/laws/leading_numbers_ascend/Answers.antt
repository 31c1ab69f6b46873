use Rattle.msi_table_cells.proofs.SortedRowsLemmas.{leading_numbers_ascend}
use Rattle.msi_table_cells.proofs.laws.leading_numbers_ascend.Goals as goal

pub returns : goal.returns
returns c = leading_numbers_ascend
