use Rattle.std.proofs.Common.{◌≡◌, map, take}
use Rattle.msi_query.proofs.query.select.Select.from_tables.Given as goal

abbrev pub invariant-loop-table : goal.invariant-loop-table
invariant-loop-table l = record {
  sides : l.sides.items ≡ map (λ side. record { table = side.0.now; name = side.1.now }) (take l.table-index l.tables);
}
