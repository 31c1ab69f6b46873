use Rattle.std.proofs.Common.{◌≡◌, drop, map}
use Rattle.std.specs.Prelude.{bytes_eq}
use Rattle.msi_base.specs.Lists.{has_pair}
use Rattle.msi_transform_pair.proofs.fitness.has_name_twice.Given as goal

abbrev pub invariant-loop-i : goal.invariant-loop-i
invariant-loop-i l = record { same : has_pair bytes_eq (map (λ c. c.name) (drop l.i l.columns)) ≡ has_pair bytes_eq (map (λ c. c.name) l.columns) }
