use Rattle.std.proofs.Common.{◌≡◌, map, take}
use Rattle.msi_transform_pair.specs.Names.{names_in}
use Rattle.msi_transform_pair.proofs.base.names_of_tables.Given as goal

abbrev pub invariant-loop-table : goal.invariant-loop-table
invariant-loop-table l = record { names : names_in l.names.items ≡ map (λ t. t.name) (take l.table-index l.tables) }
