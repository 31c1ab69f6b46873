use Rattle.msi_query.specs.Rows.{relation_values}
use Rattle.msi_query_rows.proofs.MeantLemmas.{kept_fails, kept_given, meant_same}
use Rattle.msi_query_rows.proofs.narrowing.kept_of.Goals as goal

pub returns-clause-ok : goal.returns-clause-ok
returns-clause-ok c =
    let clauses = c.in_ok-clauses.clauses in
    kept_given c.args.pool.now.places c.args.clauses.now clauses c.args.relation c.narrowed.result
    (meant_same c.args.clauses.now clauses c.name.result.now c.args.relation.name c.columns.result.now c.args.relation.columns c.in_ok-clauses.ensures.ok c.name.ensures c.columns.ensures)
    c.narrowed.ensures.ok

pub returns-clause-kind : goal.returns-clause-kind
returns-clause-kind c =
    let clauses = c.in_ok-clauses.clauses in
    kept_fails c.args.clauses.now clauses (relation_values c.args.pool.now.places c.args.relation) c.narrowed.result
    (meant_same c.args.clauses.now clauses c.name.result.now c.args.relation.name c.columns.result.now c.args.relation.columns c.in_ok-clauses.ensures.ok c.name.ensures c.columns.ensures)
    c.narrowed.ensures.kind
