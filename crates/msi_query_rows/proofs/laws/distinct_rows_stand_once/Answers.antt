use Rattle.msi_query_rows.proofs.StandOnceLemmas.{stand_once}
use Rattle.msi_query_rows.proofs.laws.distinct_rows_stand_once.Goals as goal

pub returns : goal.returns
returns c = stand_once
