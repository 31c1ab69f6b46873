use Rattle.std.proofs.Common.{◌≡◌, fold, take}
use Rattle.std.specs.FinMap.{entries}
use Rattle.msi_database_storage.specs.Widening.{with_long_rows}
use Rattle.msi_database.proofs.database.Database.store_tables_long.Given as goal

abbrev pub invariant-loop-table : goal.invariant-loop-table
invariant-loop-table l = record {
  so_far : entries l.streams ≡ fold with_long_rows (entries l.initial.streams) (take l.table-index l.self.database.tables);
}
