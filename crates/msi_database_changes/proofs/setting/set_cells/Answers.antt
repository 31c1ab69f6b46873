use Rattle.std.proofs.lemmas.Result.{err_from_is_err_and}
use Rattle.msi_database_changes.proofs.setting.set_cells.Goals as goal

pub returns-in_err-exchange-clause-ok : goal.returns-in_err-exchange-clause-ok
returns-in_err-exchange-clause-ok c = let p = err_from_is_err_and c.from_residual.result c.from_residual.ensures.1 in rw p.1 tt
