use Rattle.msi_query_rows.proofs.LinkLemmas.{place_behind, place_here}
use Rattle.msi_query_rows.proofs.links.column_at.Goals as goal

pub returns-then-rest-width : goal.returns-then-rest-width
returns-then-rest-width c =
    place_here c.args.relations.now c.args.place c.loop-i.i c.loop-i.rest c.index-relations-i.result c.columns-width.result.now
    c.loop-i-test.true c.index-relations-i.is c.columns-width.ensures c.if-rest-width.true c.loop-i.invariant.place

pub loop-i-preserved : goal.loop-i-preserved
loop-i-preserved c = record {
  place = place_behind c.args.relations.now c.args.place c.loop-i.i c.loop-i.rest c.index-relations-i.result c.columns-width.result.now
      c.loop-i-test.true c.index-relations-i.is c.columns-width.ensures c.if-rest-width.false c.loop-i.invariant.place;
}
