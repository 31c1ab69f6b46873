use Rattle.msi_query_rows.proofs.DistinctLemmas.{same_row-Decides}
use Rattle.msi_query_rows.proofs.laws.same_rows_are_equal.Goals as goal

pub returns : goal.returns
returns c = same_row-Decides
