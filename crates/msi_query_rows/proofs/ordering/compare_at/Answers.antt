use Rattle.std.proofs.Common.{None, ◌∙◌, sym, arith}
use Rattle.msi_query_rows.proofs.OrderLemmas.{place_decides, place_ties, places_tie}
use Rattle.msi_query_rows.proofs.ordering.compare_at.Goals as goal

pub returns-then-ne : goal.returns-then-ne
returns-then-ne c = sym (c.loop-place.invariant.same
    ∙ place_decides c.args.pool.now.places c.args.places.now c.args.row.now c.args.other.now c.loop-place.place-index None c.cell_of.result c.cell_of-in-loop-place.result c.compare_values-order.result
    c.loop-place-test.true c.cell_of.ensures c.cell_of-in-loop-place.ensures c.compare_values-order.ensures (sym c.ne.ensures ∙ c.if-ne.true))

pub loop-place-preserved : goal.loop-place-preserved
loop-place-preserved c = record {
  same = c.loop-place.invariant.same
      ∙ place_ties c.args.pool.now.places c.args.places.now c.args.row.now c.args.other.now c.loop-place.place-index None c.cell_of.result c.cell_of-in-loop-place.result c.compare_values-order.result
      c.loop-place-test.true c.cell_of.ensures c.cell_of-in-loop-place.ensures c.compare_values-order.ensures (sym c.ne.ensures ∙ c.if-ne.false);
}

pub returns : goal.returns
returns c = sym (c.loop-place.invariant.same
    ∙ places_tie c.args.pool.now.places c.args.places.now c.args.row.now c.args.other.now c.loop-place.place-index (omega arith))
