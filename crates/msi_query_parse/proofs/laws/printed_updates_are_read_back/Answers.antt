use Rattle.msi_query_parse.proofs.PrintedQueryLemmas.{updates_are_read_back}
use Rattle.msi_query_parse.proofs.laws.printed_updates_are_read_back.Goals as goal

pub returns : goal.returns
returns c = updates_are_read_back
