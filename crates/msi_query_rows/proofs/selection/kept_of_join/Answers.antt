use Rattle.std.proofs.Common.{rules}
use Rattle.msi_query.specs.Rows.{relation_values}
use Rattle.msi_query_rows.proofs.MeantLemmas.{join_given, join_refused_so}
use Rattle.msi_query_rows.proofs.selection.kept_of_join.Goals as goal

pub returns-clause-ok : goal.returns-clause-ok
returns-clause-ok c =
    let places = c.args.pool.now.places in
    join_given places c.args.kind c.args.on.now c.in_ok-on.on c.args.clauses.now c.in_ok-clauses.clauses (relation_values places c.args.left) (relation_values places c.args.right)
    c.as_slice.result.now c.joined.result (search (rules, c.in_ok-columns.ensures.ok places)) c.in_ok-on.ensures.ok c.in_ok-clauses.ensures.ok c.joined.ensures.ok

pub returns-clause-kind : goal.returns-clause-kind
returns-clause-kind c =
    let places = c.args.pool.now.places in
    join_refused_so c.args.kind c.args.on.now c.in_ok-on.on c.args.clauses.now c.in_ok-clauses.clauses (relation_values places c.args.left) (relation_values places c.args.right)
    c.as_slice.result.now c.joined.result (search (rules, c.in_ok-columns.ensures.ok places)) c.in_ok-on.ensures.ok c.in_ok-clauses.ensures.ok c.joined.ensures.kind
