use Rattle.std.proofs.Common.{refl}
use Rattle.msi_query.specs.QueryTrees.{query_of}
use Rattle.msi_query.specs.Rows.{tables_values}
use Rattle.msi_query_rows.proofs.MeantLemmas.{kept_is_wide, kept_of_join_is_wide}
use Rattle.msi_query_rows.proofs.JoinLemmas.{join_answer, table_answer}
use Rattle.msi_query_rows.proofs.RefusedLemmas.{join_fails, left_refused, no_value, right_refused, table_fails, table_refused}
use Rattle.msi_base.proofs.RefusalLemmas.{err_passed}
use Rattle.msi_query_rows.proofs.selection.+relation_of_tree.Goals as goal

pub returns-in_ok-relation-in-Table-clause-ok : goal.returns-in_ok-relation-in-Table-clause-ok
returns-in_ok-relation-in-Table-clause-ok g t c =
    table_answer c.args.pool.now.places (g.T.Tables.table c.args.tables.now) (query_of c.args.tree.now) c.as_str.result.now c.in-Table.clauses
    c.in_ok-relation-in-Table.relation c.kept_of.result (rw (c.in-Table.is, c.as_str.ensures) refl) c.in_ok-relation-in-Table.ensures.ok c.kept_of.ensures.ok

pub returns-in_ok-right-in-Join-clause-ok : goal.returns-in_ok-right-in-Join-clause-ok
returns-in_ok-right-in-Join-clause-ok g t c =
    join_answer (tables_values c.args.pool.now.places (g.T.Tables.table c.args.tables.now)) c.args.pool.now.places (query_of c.args.tree.now) c.in-Join.kind
    (query_of c.deref.result.now) (query_of c.deref-in-Join.result.now) c.in-Join.on c.in-Join.clauses
    c.in_ok-left-in-Join.left c.in_ok-right-in-Join.right c.kept_of_join.result (rw (c.in-Join.is, c.deref.ensures, c.deref-in-Join.ensures) refl)
    c.in_ok-left-in-Join.ensures.ok c.in_ok-right-in-Join.ensures.ok c.kept_of_join.ensures.ok

pub returns-in_err-relation-in-Table-clause-ok : goal.returns-in_err-relation-in-Table-clause-ok
returns-in_err-relation-in-Table-clause-ok g t c = no_value _ c.from_residual.result c.in_err-relation-in-Table.field-0.0 c.from_residual.ensures.1

pub returns-in_err-relation-in-Table-clause-kind : goal.returns-in_err-relation-in-Table-clause-kind
returns-in_err-relation-in-Table-clause-kind g t c = err_passed c.from_residual.result c.in_err-relation-in-Table.field-0.0 _ c.from_residual.ensures.1
    (table_refused c.args.pool.now.places (g.T.Tables.table c.args.tables.now) (query_of c.args.tree.now) c.as_str.result.now c.in-Table.clauses c.in_err-relation-in-Table.field-0.0 (rw (c.in-Table.is, c.as_str.ensures) refl) c.in_err-relation-in-Table.ensures.kind)

pub returns-in_ok-relation-in-Table-clause-kind : goal.returns-in_ok-relation-in-Table-clause-kind
returns-in_ok-relation-in-Table-clause-kind g t c = table_fails c.args.pool.now.places (g.T.Tables.table c.args.tables.now) (query_of c.args.tree.now) c.as_str.result.now c.in-Table.clauses
    c.in_ok-relation-in-Table.relation c.kept_of.result (rw (c.in-Table.is, c.as_str.ensures) refl) c.in_ok-relation-in-Table.ensures.ok c.kept_of.ensures.kind

pub returns-in_err-left-in-Join-clause-ok : goal.returns-in_err-left-in-Join-clause-ok
returns-in_err-left-in-Join-clause-ok g t c = no_value _ c.from_residual-in_err-left-in-Join.result c.in_err-left-in-Join.field-0.0 c.from_residual-in_err-left-in-Join.ensures.1

pub returns-in_err-left-in-Join-clause-kind : goal.returns-in_err-left-in-Join-clause-kind
returns-in_err-left-in-Join-clause-kind g t c = err_passed c.from_residual-in_err-left-in-Join.result c.in_err-left-in-Join.field-0.0 _ c.from_residual-in_err-left-in-Join.ensures.1
    (left_refused (tables_values c.args.pool.now.places (g.T.Tables.table c.args.tables.now)) (query_of c.args.tree.now) c.in-Join.kind (query_of c.deref.result.now) (query_of c.in-Join.right.value) c.in-Join.on c.in-Join.clauses c.in_err-left-in-Join.field-0.0
    (rw (c.in-Join.is, c.deref.ensures) refl) c.in_err-left-in-Join.ensures.kind)

pub returns-in_err-right-in-Join-clause-ok : goal.returns-in_err-right-in-Join-clause-ok
returns-in_err-right-in-Join-clause-ok g t c = no_value _ c.from_residual-in_err-right-in-Join.result c.in_err-right-in-Join.field-0.0 c.from_residual-in_err-right-in-Join.ensures.1

pub returns-in_err-right-in-Join-clause-kind : goal.returns-in_err-right-in-Join-clause-kind
returns-in_err-right-in-Join-clause-kind g t c = err_passed c.from_residual-in_err-right-in-Join.result c.in_err-right-in-Join.field-0.0 _ c.from_residual-in_err-right-in-Join.ensures.1
    (right_refused (tables_values c.args.pool.now.places (g.T.Tables.table c.args.tables.now)) (query_of c.args.tree.now) c.in-Join.kind (query_of c.deref.result.now) (query_of c.deref-in-Join.result.now) c.in-Join.on c.in-Join.clauses _ c.in_err-right-in-Join.field-0.0
    (rw (c.in-Join.is, c.deref.ensures, c.deref-in-Join.ensures) refl) c.in_ok-left-in-Join.ensures.ok c.in_err-right-in-Join.ensures.kind)

pub returns-in_ok-right-in-Join-clause-kind : goal.returns-in_ok-right-in-Join-clause-kind
returns-in_ok-right-in-Join-clause-kind g t c = join_fails (tables_values c.args.pool.now.places (g.T.Tables.table c.args.tables.now)) (query_of c.args.tree.now) c.in-Join.kind (query_of c.deref.result.now) (query_of c.deref-in-Join.result.now) c.in-Join.on c.in-Join.clauses _ _ c.kept_of_join.result
    (rw (c.in-Join.is, c.deref.ensures, c.deref-in-Join.ensures) refl) c.in_ok-left-in-Join.ensures.ok c.in_ok-right-in-Join.ensures.ok c.kept_of_join.ensures.kind

pub returns-in_ok-relation-in-Table-clause-wide : goal.returns-in_ok-relation-in-Table-clause-wide
returns-in_ok-relation-in-Table-clause-wide g t c =
    kept_is_wide c.args.pool.now.places c.in-Table.clauses c.in_ok-relation-in-Table.relation c.kept_of.result c.in_ok-relation-in-Table.ensures.wide c.kept_of.ensures.ok

pub returns-in_ok-right-in-Join-clause-wide : goal.returns-in_ok-right-in-Join-clause-wide
returns-in_ok-right-in-Join-clause-wide g t c =
    kept_of_join_is_wide c.args.pool.now.places c.in-Join.kind c.in-Join.on c.in-Join.clauses c.in_ok-left-in-Join.left c.in_ok-right-in-Join.right c.kept_of_join.result
    c.in_ok-left-in-Join.ensures.wide c.in_ok-right-in-Join.ensures.wide c.kept_of_join.ensures.ok

pub returns-in-Product-clause-ok : goal.returns-in-Product-clause-ok
returns-in-Product-clause-ok g t c = rw (c.in-Product.is, ← c.as_slice.ensures) c.product_of_sides.ensures.ok

pub returns-in-Product-clause-kind : goal.returns-in-Product-clause-kind
returns-in-Product-clause-kind g t c = rw (c.in-Product.is, ← c.as_slice.ensures) c.product_of_sides.ensures.kind
