use Rattle.msi_query_rows.proofs.RefusedLemmas.{memory_refuses, narrowed_given, narrowed_refused, no_value}
use Rattle.msi_base.proofs.RefusalLemmas.{err_passed}
use Rattle.msi_query_rows.proofs.narrowing.narrowed.Goals as goal

pub returns-in_err-refuse_unknown-clause-ok : goal.returns-in_err-refuse_unknown-clause-ok
returns-in_err-refuse_unknown-clause-ok c = no_value _ c.from_residual.result c.in_err-refuse_unknown.field-0.0 c.from_residual.ensures.1

pub returns-in_err-refuse_unknown-clause-kind : goal.returns-in_err-refuse_unknown-clause-kind
returns-in_err-refuse_unknown-clause-kind c = err_passed c.from_residual.result c.in_err-refuse_unknown.field-0.0 _ c.from_residual.ensures.1
    (narrowed_refused c.args.pool.now.places c.args.clauses.now c.args.relation c.columns.result.now c.refuse_unknown.result c.in_err-refuse_unknown.field-0.0 c.columns.ensures c.refuse_unknown.ensures c.in_err-refuse_unknown.was)

pub returns-clause-ok : goal.returns-clause-ok
returns-clause-ok c = narrowed_given c.args.pool.now.places c.args.clauses.now c.args.relation c.columns.result.now c.refuse_unknown.result c.selected.result c.columns.ensures c.refuse_unknown.ensures c.in_ok-refuse_unknown.was c.selected.ensures.ok

pub returns-clause-kind : goal.returns-clause-kind
returns-clause-kind c = memory_refuses c.selected.result _ c.selected.ensures.kind
