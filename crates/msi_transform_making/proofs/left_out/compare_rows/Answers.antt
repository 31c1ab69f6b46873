use Rattle.std.proofs.Common.{◌∙◌, arith, sym}
use Rattle.msi_transform_making.proofs.LeftOutSteps.{cell_more, not_unequal}
use Rattle.msi_transform_making.proofs.left_out.compare_rows.Goals as goal

pub loop-i-preserved : goal.loop-i-preserved
loop-i-preserved c = record {
  same = cell_more c.args.texts.now c.args.row.now c.args.other.now c.loop-i.i c.index-row-i.result c.index-other-i.result (omega arith) (omega arith)
      c.index-row-i.is c.index-other-i.is (c.compare_cells-order.ensures (not_unequal c.compare_cells-order.result (sym c.ne.ensures ∙ c.if-ne.false))) c.loop-i.invariant.same;
}
