use Rattle.std.proofs.Common.{arith}
use Rattle.std.specs.FinMap.{entries}
use Rattle.msi_transform_making.proofs.StoringLemmas.{table_put}
use Rattle.msi_transform_making.proofs.storing.records_by_table.Goals as goal

pub loop-i-preserved : goal.loop-i-preserved
loop-i-preserved c = record {
  tables = table_put c.args.long c.args.stored.now c.loop-i.i c.index-stored-stored.result (entries c.loop-i.by_table) (entries c.put_table.new.by_table)
      (omega arith) c.index-stored-stored.is c.loop-i.invariant.tables c.in_ok-put_table.ensures.ok;
}
