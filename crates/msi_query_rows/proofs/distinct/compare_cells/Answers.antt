use Rattle.std.proofs.Common.{◌∙◌, sym, arith}
use Rattle.msi_query_rows.proofs.DistinctLemmas.{other_ends, row_ends, cell_decides, cell_ties}
use Rattle.msi_query_rows.proofs.distinct.compare_cells.Goals as goal

pub returns-then-i-other : goal.returns-then-i-other
returns-then-i-other c = sym (c.loop-i.invariant.same
    ∙ other_ends c.args.pool.now.places c.args.others.now.places c.args.row.now c.args.other.now c.loop-i.i (omega arith) (omega arith))

pub returns-then-ne : goal.returns-then-ne
returns-then-ne c = sym (c.loop-i.invariant.same
    ∙ cell_decides c.args.pool.now.places c.args.others.now.places c.args.row.now c.args.other.now c.loop-i.i c.index-row-i.result c.index-other-i.result _ _ c.compare-order.result
    (omega arith) (omega arith) c.index-row-i.is c.index-other-i.is c.view_of_cell.ensures c.view_of_cell-in-loop-i.ensures c.compare-order.ensures (sym c.ne.ensures ∙ c.if-ne.true))

pub loop-i-preserved : goal.loop-i-preserved
loop-i-preserved c = record {
  same = c.loop-i.invariant.same
      ∙ cell_ties c.args.pool.now.places c.args.others.now.places c.args.row.now c.args.other.now c.loop-i.i c.index-row-i.result c.index-other-i.result _ _ c.compare-order.result
      (omega arith) (omega arith) c.index-row-i.is c.index-other-i.is c.view_of_cell.ensures c.view_of_cell-in-loop-i.ensures c.compare-order.ensures (sym c.ne.ensures ∙ c.if-ne.false);
}

pub returns-then-row-other : goal.returns-then-row-other
returns-then-row-other c = sym (c.loop-i.invariant.same
    ∙ row_ends c.args.pool.now.places c.args.others.now.places c.args.row.now c.args.other.now c.loop-i.i (omega arith) (omega arith))
