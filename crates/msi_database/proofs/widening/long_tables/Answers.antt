use Rattle.std.proofs.lemmas.Result.{err_from_is_err_and}
use Rattle.msi_database.proofs.widening.long_tables.Goals as goal

pub returns-in_err-long-clause-ok : goal.returns-in_err-long-clause-ok
returns-in_err-long-clause-ok c = let p = err_from_is_err_and c.from_residual.result c.from_residual.ensures.1 in rw p.1 tt

pub returns-in_err-long_table-clause-ok : goal.returns-in_err-long_table-clause-ok
returns-in_err-long_table-clause-ok c = let p = err_from_is_err_and c.from_residual-in_err-long_table.result c.from_residual-in_err-long_table.ensures.1 in rw p.1 tt

pub returns-in_err-push-clause-ok : goal.returns-in_err-push-clause-ok
returns-in_err-push-clause-ok c = let p = err_from_is_err_and c.from_residual-in_err-push.result c.from_residual-in_err-push.ensures.1 in rw p.1 tt
