use Rattle.std.proofs.Common.{◌≡◌, drop}
use Rattle.msi_transform_pair.proofs.FitnessLemmas.{is_lacked}
use Rattle.msi_transform_pair.proofs.fitness.lacks_text_of.Given as goal

abbrev pub invariant-loop-at : goal.invariant-loop-at
invariant-loop-at l = record {
  same : is_lacked l.pool.page (drop l.at l.pool.places) ≡ is_lacked l.pool.page l.pool.places;
}
