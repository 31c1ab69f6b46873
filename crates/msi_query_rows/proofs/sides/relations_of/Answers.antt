use Rattle.std.proofs.Common.{[], ◌∷◌, arith}
use Rattle.msi_base.proofs.ListLemmas.{all_joined}
use Rattle.msi_base.proofs.RefusalLemmas.{err_passed}
use Rattle.msi_table.specs.Rows.{AreAsWide}
use Rattle.msi_query.specs.Rows.{RelationCells}
use Rattle.msi_query_rows.proofs.SidesLemmas.{side_given, side_refuses}
use Rattle.msi_query_rows.proofs.sides.relations_of.Goals as goal

pub loop-side-preserved : goal.loop-side-preserved
loop-side-preserved g c = record {
  given = side_given (g.T.Tables.table c.args.tables.now) c.args.sides.now c.loop-side.side-index c.side-item.result c.loop-side.relations.items c.push.new.self.items c.in_ok-relation.relation
      (omega arith) c.side-item.is c.loop-side.invariant.given c.in_ok-relation.ensures.ok c.in_ok-push.ensures.items;
  wide = rw c.in_ok-push.ensures.items (all_joined (λ (r : RelationCells). AreAsWide r.columns r.rows) c.loop-side.relations.items (c.in_ok-relation.relation ∷ []) c.loop-side.invariant.wide
      (c.in_ok-relation.ensures.wide, tt));
}

pub returns-in_err-relation-clause-kind : goal.returns-in_err-relation-clause-kind
returns-in_err-relation-clause-kind g c = err_passed c.from_residual.result c.in_err-relation.field-0.0 _ c.from_residual.ensures.1
    (side_refuses (g.T.Tables.table c.args.tables.now) c.args.sides.now c.loop-side.side-index c.side-item.result c.loop-side.relations.items _
    (omega arith) c.side-item.is c.loop-side.invariant.given c.in_err-relation.ensures.kind)
