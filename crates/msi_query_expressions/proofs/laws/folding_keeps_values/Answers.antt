use Rattle.msi_query_expressions.proofs.FoldingLemmas as lemmas
use Rattle.msi_query_expressions.proofs.laws.folding_keeps_values.Goals as goal

pub returns : goal.returns
returns c = lemmas.folding_keeps_values
