use Rattle.msi_query_tokens.proofs.SymbolLemmas.{one_list}
use Rattle.msi_query_tokens.proofs.laws.texts_have_one_list_of_symbols.Goals as goal

pub returns : goal.returns
returns c = one_list
