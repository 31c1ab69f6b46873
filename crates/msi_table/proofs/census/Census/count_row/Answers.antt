use Rattle.msi_table.proofs.CensusLemmas.{item_counted}
use Rattle.msi_table.proofs.census.Census.count_row.Goals as goal

pub loop-cell-preserved : goal.loop-cell-preserved
loop-cell-preserved c = item_counted c.args.row.now c.loop-cell.cell-index c.cell-item.result c.args.self.now c.loop-cell.self c.count.new.self c.loop-cell-test.true c.cell-item.is c.loop-cell.invariant c.count.ensures
