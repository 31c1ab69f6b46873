use Rattle.msi_query_expressions.proofs.FoldingLemmas as lemmas
use Rattle.msi_query_expressions.proofs.laws.constructors_fold.Goals as goal

pub returns : goal.returns
returns c = lemmas.constructors_fold
