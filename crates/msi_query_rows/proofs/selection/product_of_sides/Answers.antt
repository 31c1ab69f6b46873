use Rattle.msi_base.proofs.RefusalLemmas.{err_passed}
use Rattle.msi_query_rows.proofs.SidesLemmas.{names_refused, product_answer, product_fails, product_is_wide, tables_refused}
use Rattle.msi_query_rows.proofs.selection.product_of_sides.Goals as goal

pub returns-in_err-relations-clause-kind : goal.returns-in_err-relations-clause-kind
returns-in_err-relations-clause-kind g c = err_passed c.from_residual.result c.in_err-relations.field-0.0 _ c.from_residual.ensures.1
    (tables_refused c.args.pool.now.places (g.T.Tables.table c.args.tables.now) c.args.sides.now c.args.clauses.now c.in_err-relations.field-0.0 c.in_err-relations.ensures.kind)

pub returns-in_err-refuse_repeated-clause-kind : goal.returns-in_err-refuse_repeated-clause-kind
returns-in_err-refuse_repeated-clause-kind g c = err_passed c.from_residual-in_err-refuse_repeated.result c.in_err-refuse_repeated.field-0.0 _ c.from_residual-in_err-refuse_repeated.ensures.1
    (names_refused c.args.pool.now.places (g.T.Tables.table c.args.tables.now) c.args.sides.now c.args.clauses.now c.in_ok-relations.relations.items c.refuse_repeated.result _
    c.in_ok-relations.ensures.ok c.refuse_repeated.ensures c.in_err-refuse_repeated.was)

pub returns-clause-ok : goal.returns-clause-ok
returns-clause-ok g c =
    product_answer c.args.pool.now.places (g.T.Tables.table c.args.tables.now) c.args.sides.now c.args.clauses.now c.in_ok-relations.relations.items c.refuse_repeated.result c.kept_of_product.result
    c.in_ok-relations.ensures.ok c.refuse_repeated.ensures c.in_ok-refuse_repeated.was (rw (← c.as_slice.ensures.value) c.kept_of_product.ensures.ok)

pub returns-clause-kind : goal.returns-clause-kind
returns-clause-kind g c =
    product_fails c.args.pool.now.places (g.T.Tables.table c.args.tables.now) c.args.sides.now c.args.clauses.now c.in_ok-relations.relations.items c.refuse_repeated.result c.kept_of_product.result
    c.in_ok-relations.ensures.ok c.refuse_repeated.ensures c.in_ok-refuse_repeated.was (rw (← c.as_slice.ensures.value) c.kept_of_product.ensures.kind)

pub returns-clause-wide : goal.returns-clause-wide
returns-clause-wide g c =
    product_is_wide c.args.pool.now.places c.args.clauses.now c.in_ok-relations.relations.items c.kept_of_product.result
    c.in_ok-relations.ensures.wide (rw (← c.as_slice.ensures.value) c.kept_of_product.ensures.ok)
