use Rattle.std.proofs.Common.{◌∙◌, sym, arith}
use Rattle.msi_database_changes.proofs.row_keys.ViewLemmas.{other_ends, row_ends, decides, ties}
use Rattle.msi_database_changes.proofs.views.compare_views.Goals as goal

pub returns-then-i-other : goal.returns-then-i-other
returns-then-i-other c = sym (c.loop-i.invariant.same ∙ other_ends c.args.row.now c.args.other.now c.loop-i.i (omega arith) (omega arith))

pub returns-then-ne : goal.returns-then-ne
returns-then-ne c = sym (c.loop-i.invariant.same
    ∙ decides c.args.row.now c.args.other.now c.loop-i.i c.compare-order.result (omega arith) (omega arith) c.compare-order.ensures (sym c.ne.ensures ∙ c.if-ne.true))

pub loop-i-preserved : goal.loop-i-preserved
loop-i-preserved c = record {
  same = c.loop-i.invariant.same
      ∙ ties c.args.row.now c.args.other.now c.loop-i.i c.compare-order.result (omega arith) (omega arith) c.compare-order.ensures (sym c.ne.ensures ∙ c.if-ne.false);
}

pub returns-then-row-other : goal.returns-then-row-other
returns-then-row-other c = sym (c.loop-i.invariant.same ∙ row_ends c.args.row.now c.args.other.now c.loop-i.i (omega arith) (omega arith))
