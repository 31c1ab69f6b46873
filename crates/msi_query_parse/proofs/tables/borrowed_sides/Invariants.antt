use Rattle.std.proofs.Common.{◌≡◌, map, take}
use Rattle.msi_query_parse.specs.Tables.{side_of}
use Rattle.msi_query_parse.proofs.tables.borrowed_sides.Given as goal

abbrev pub invariant-loop-table : goal.invariant-loop-table
invariant-loop-table l = map (λ side. record { table = side.0.now; name = side.1.now }) l.all.items ≡ map side_of (take l.table-index l.tables)
