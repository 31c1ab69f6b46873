use Rattle.std.proofs.Common.{◌≡◌, drop}
use Rattle.std.specs.List.{list_any}
use Rattle.msi_transform_pair.specs.Pair.{is_odd_table}
use Rattle.msi_transform_pair.specs.Names.{names_in}
use Rattle.msi_transform_pair.proofs.fitness.has_odd_table.Given as goal

abbrev pub invariant-loop-name : goal.invariant-loop-name
invariant-loop-name l = record { same : list_any (is_odd_table l.base.kept) (names_in (drop l.name-index l.names)) ≡ list_any (is_odd_table l.base.kept) (names_in l.names) }
