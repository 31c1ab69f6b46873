use Rattle.std.proofs.Common.{◌∙◌}
use Rattle.std.proofs.lemmas.Result.{err_from_is_err_and}
use Rattle.msi_database_changes.proofs.keys.keys_of_cells.Goals as goal

pub returns-in_err-views-clause-ok : goal.returns-in_err-views-clause-ok
returns-in_err-views-clause-ok c = let p = err_from_is_err_and c.from_residual.result c.from_residual.ensures.1 in rw p.1 tt

pub returns-in_err-views-clause-kind : goal.returns-in_err-views-clause-kind
returns-in_err-views-clause-kind c = let p = err_from_is_err_and c.from_residual.result c.from_residual.ensures.1 in rw p.1 (p.2 ∙ c.in_err-views.ensures.kind)

pub returns-in_err-of_row-clause-ok : goal.returns-in_err-of_row-clause-ok
returns-in_err-of_row-clause-ok c = let p = err_from_is_err_and c.from_residual-in_err-of_row.result c.from_residual-in_err-of_row.ensures.1 in rw p.1 tt

pub returns-in_err-of_row-clause-kind : goal.returns-in_err-of_row-clause-kind
returns-in_err-of_row-clause-kind c = let p = err_from_is_err_and c.from_residual-in_err-of_row.result c.from_residual-in_err-of_row.ensures.1 in rw p.1 (p.2 ∙ c.in_err-of_row.ensures.kind)

pub returns-in_err-push-clause-ok : goal.returns-in_err-push-clause-ok
returns-in_err-push-clause-ok c = let p = err_from_is_err_and c.from_residual-in_err-push.result c.from_residual-in_err-push.ensures.1 in rw p.1 tt

pub returns-in_err-push-clause-kind : goal.returns-in_err-push-clause-kind
returns-in_err-push-clause-kind c = let p = err_from_is_err_and c.from_residual-in_err-push.result c.from_residual-in_err-push.ensures.1 in rw p.1 p.2
