use Rattle.msi_table.proofs.CensusLemmas.{row_counted}
use Rattle.msi_table.proofs.census.Census.count_rows.Goals as goal

pub loop-row-preserved : goal.loop-row-preserved
loop-row-preserved c = row_counted c.args.rows.now c.loop-row.row-index c.row-item.result c.as_slice.result.now c.args.self.now c.loop-row.self c.count_row.new.self c.loop-row-test.true c.row-item.is c.as_slice.ensures
    c.loop-row.invariant c.count_row.ensures
