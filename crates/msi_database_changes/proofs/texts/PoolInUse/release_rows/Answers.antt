use Rattle.std.proofs.Common.{◌∙◌}
use Rattle.std.proofs.lemmas.Result.{err_from_is_err_and}
use Rattle.msi_database_changes.proofs.texts.PoolInUse.release_rows.Goals as goal

pub returns-in_err-release_row-clause-ok : goal.returns-in_err-release_row-clause-ok
returns-in_err-release_row-clause-ok c = let p = err_from_is_err_and c.from_residual.result c.from_residual.ensures.1 in rw p.1 tt

pub returns-in_err-release_row-clause-kind : goal.returns-in_err-release_row-clause-kind
returns-in_err-release_row-clause-kind c = let p = err_from_is_err_and c.from_residual.result c.from_residual.ensures.1 in rw p.1 (p.2 ∙ c.in_err-release_row.ensures.kind)
