use Rattle.msi_query_parse.proofs.PrintedLemmas.{expressions_are_read_back}
use Rattle.msi_query_parse.proofs.laws.printed_expressions_are_read_back.Goals as goal

pub returns : goal.returns
returns c = expressions_are_read_back
