use Rattle.msi_query_parse.proofs.PrintedQueryLemmas.{inserts_are_read_back}
use Rattle.msi_query_parse.proofs.laws.printed_inserts_are_read_back.Goals as goal

pub returns : goal.returns
returns c = inserts_are_read_back
