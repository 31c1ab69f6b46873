use Rattle.std.specs.FinMap.{entries}
use Rattle.std.proofs.Common.{map, sym, subst}
use Rattle.msi_table.specs.Census.{IsCensus, numbers_of_rows}
use Rattle.std.specs.Prelude.{◌++◌}
use Rattle.msi_database_storage.specs.Kept.{table_kept, unlisted_kept}
use Rattle.msi_database_storage.specs.Naming.{numbers_of_tables}
use Rattle.msi_database.proofs.recounting.cells_census.Goals as goal

pub returns-clause-ok : goal.returns-clause-ok
returns-clause-ok c = λ pool wide all.
    let root = entries c.args.streams.now in
    subst (λ long. IsCensus c.args.many (numbers_of_tables (map (table_kept root pool.long) c.args.tables.now) ++ numbers_of_rows (unlisted_kept root long c.args.tables.now)) c.count_unlisted.new.census) (sym wide)
    (c.count_unlisted.ensures c.args.many (numbers_of_tables (map (table_kept root pool.long) c.args.tables.now)) (c.in_ok-census.ensures.ok pool.long all))
