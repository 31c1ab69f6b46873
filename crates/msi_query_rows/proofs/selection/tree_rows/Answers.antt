use Rattle.msi_query.specs.QueryTrees.{query_of}
use Rattle.msi_query.specs.Rows.{columns_read}
use Rattle.msi_query.specs.Selection.{early_refusal}
use Rattle.msi_query_rows.proofs.EarlyLemmas.{answered_early, refused_early}
use Rattle.msi_query_rows.proofs.RefusedLemmas.{no_value}
use Rattle.msi_query_rows.proofs.selection.tree_rows.Goals as goal

pub returns-in_err-refuse_early-clause-kind : goal.returns-in_err-refuse_early-clause-kind
returns-in_err-refuse_early-clause-kind g c =
    refused_early c.args.pool.now.places (g.T.Tables.table c.args.tables.now) (query_of c.args.tree.now) _ c.refuse_early.result c.from_residual.result
    c.refuse_early.ensures c.in_err-refuse_early.was c.from_residual.ensures.1

pub returns-in_err-refuse_early-clause-early : goal.returns-in_err-refuse_early-clause-early
returns-in_err-refuse_early-clause-early g c =
    answered_early (early_refusal (columns_read (g.T.Tables.table c.args.tables.now)) (query_of c.args.tree.now)) _ c.refuse_early.result c.from_residual.result
    c.refuse_early.ensures c.in_err-refuse_early.was c.from_residual.ensures.1

pub returns-in_err-refuse_early-clause-ok : goal.returns-in_err-refuse_early-clause-ok
returns-in_err-refuse_early-clause-ok g c = no_value _ c.from_residual.result c.in_err-refuse_early.field-0.0 c.from_residual.ensures.1
