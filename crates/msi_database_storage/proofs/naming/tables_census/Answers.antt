use Rattle.std.proofs.Common.{arith}
use Rattle.std.specs.FinMap.{entries}
use Rattle.msi_database_storage.proofs.NamingLemmas.{all_tables, table_counted}
use Rattle.msi_database_storage.proofs.naming.tables_census.Goals as goal

pub loop-table-init : goal.loop-table-init
loop-table-init c = λ long all. c.in_ok-census.ensures.ok

pub loop-table-preserved : goal.loop-table-preserved
loop-table-preserved c = table_counted (entries c.args.streams.now) c.args.tables.now c.loop-table.table-index c.table-item.result c.stream_bytes.result.now c.name.result.now c.loop-table.census c.count_stored.new.self c.args.many
    c.loop-table-test.true c.table-item.is c.name.ensures c.stream_bytes.ensures c.loop-table.invariant c.count_stored.ensures.counted

pub returns-clause-ok : goal.returns-clause-ok
returns-clause-ok c = all_tables (entries c.args.streams.now) c.args.tables.now c.loop-table.table-index c.loop-table.census c.args.many (omega (arith, c.loop-table-test.false, c.loop-table.auto.table-index-end)) c.loop-table.invariant
