use Rattle.msi_query.proofs.ProductLawLemmas as law
use Rattle.msi_query.proofs.laws.products_are_joins.Goals as goal

pub returns : goal.returns
returns c = law.products_are_joins
