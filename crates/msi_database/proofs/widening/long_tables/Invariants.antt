use Rattle.std.proofs.Common.{◌≡◌, map, take}
use Rattle.msi_table.specs.Tables.{long_table_of}
use Rattle.msi_database.proofs.widening.long_tables.Given as goal

abbrev pub invariant-loop-table : goal.invariant-loop-table
invariant-loop-table l = record { so_far : l.long.items ≡ map long_table_of (take l.table-index l.tables) }
