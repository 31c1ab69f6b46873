use Rattle.std.proofs.Common.{refl}
use Rattle.msi_table.proofs.CensusLemmas.{census_new}
use Rattle.msi_table.proofs.census.Census.new.Goals as goal

pub returns-clause-ok : goal.returns-clause-ok
returns-clause-ok c = census_new c.args.many _ (c.in_ok-vec.ensures.items_if_clones_equal (λ a same. same)) refl refl
