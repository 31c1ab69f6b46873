use Rattle.std.proofs.Common.{arith}
use Rattle.msi_query_rows.proofs.SidesLemmas.{columns_more}
use Rattle.msi_query_rows.proofs.columns.product_columns.Goals as goal

pub loop-relation-preserved : goal.loop-relation-preserved
loop-relation-preserved c = record {
  columns = λ places. columns_more places c.args.relations.now c.loop-relation.relation-index c.relation-item.result c.name.result.now c.columns.result.now c.loop-relation.columns.items c.add_columns.new.joined.items
      (omega arith) c.relation-item.is c.name.ensures c.columns.ensures (c.loop-relation.invariant.columns places) c.in_ok-add_columns.ensures.ok;
}
