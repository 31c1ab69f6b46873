use Rattle.msi_query_parse.proofs.PrintedQueryLemmas.{deletes_are_read_back}
use Rattle.msi_query_parse.proofs.laws.printed_deletes_are_read_back.Goals as goal

pub returns : goal.returns
returns c = deletes_are_read_back
