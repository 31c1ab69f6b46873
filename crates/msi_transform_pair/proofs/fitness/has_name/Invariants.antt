use Rattle.std.proofs.Common.{◌≡◌, drop, map}
use Rattle.std.specs.Prelude.{bytes_eq}
use Rattle.std.specs.List.{list_any}
use Rattle.msi_transform_pair.proofs.fitness.has_name.Given as goal

abbrev pub invariant-loop-column : goal.invariant-loop-column
invariant-loop-column l = record {
  same : list_any (bytes_eq l.name) (map (λ c. c.name) (drop l.column-index l.columns)) ≡ list_any (bytes_eq l.name) (map (λ c. c.name) l.columns);
}
