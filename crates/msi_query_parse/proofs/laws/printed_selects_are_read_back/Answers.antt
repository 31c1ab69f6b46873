use Rattle.msi_query_parse.proofs.PrintedQueryLemmas.{selects_are_read_back}
use Rattle.msi_query_parse.proofs.laws.printed_selects_are_read_back.Goals as goal

pub returns : goal.returns
returns c = selects_are_read_back
