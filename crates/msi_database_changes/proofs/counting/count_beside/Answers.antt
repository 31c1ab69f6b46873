use Rattle.std.specs.Prelude.{[], unwrap_or}
use Rattle.msi_table.specs.Tables.{rows_spelled}
use Rattle.msi_database_changes.proofs.text_counts.CountingLemmas.{beside_counted, listed_counted}
use Rattle.msi_database_changes.proofs.counting.count_beside.Goals as goal

pub returns-then-is_listed : goal.returns-then-is_listed
returns-then-is_listed c = listed_counted (unwrap_or (rows_spelled c.args.table.now c.args.bytes.now) []) c.args.census.now c.args.census.now c.args.is_listed c.if-is_listed.true

pub returns : goal.returns
returns c = beside_counted (unwrap_or (rows_spelled c.args.table.now c.args.bytes.now) []) c.args.census.now c.count_stored.new.self c.args.is_listed c.if-is_listed.false c.count_stored.ensures.counted
