use Rattle.std.proofs.Common.{◌≡◌, map, take}
use Rattle.msi_database_changes.specs.Insert.{value_beside}
use Rattle.msi_database_changes.proofs.naming.whole_row.Given as goal

abbrev pub invariant-loop-column : goal.invariant-loop-column
invariant-loop-column l = record {
  made : l.values.items ≡ map (λ c. value_beside l.names l.row c.name) (take l.column-index l.columns);
}
