use Rattle.std.proofs.Common.{Bool, map, take}
use Rattle.std.specs.FinMap.{entries}
use Rattle.msi_table.specs.Census.{IsCensus}
use Rattle.msi_database_storage.specs.Kept.{AreAsLong, table_kept}
use Rattle.msi_database_storage.specs.Naming.{numbers_of_tables}
use Rattle.msi_database_storage.proofs.naming.tables_census.Given as goal

abbrev pub invariant-loop-table : goal.invariant-loop-table
invariant-loop-table l = (long : Bool) → AreAsLong long l.tables
    → IsCensus l.many (numbers_of_tables (map (table_kept (entries l.streams) long) (take l.table-index l.tables))) l.census
