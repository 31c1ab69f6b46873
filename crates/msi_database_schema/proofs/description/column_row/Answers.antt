use Rattle.std.proofs.lemmas.Result.{err_from_is_err_and}
use Rattle.msi_database_schema.proofs.description.column_row.Goals as goal

pub returns-in_err-table-clause-ok : goal.returns-in_err-table-clause-ok
returns-in_err-table-clause-ok c = let p = err_from_is_err_and c.from_residual.result c.from_residual.ensures.1 in rw p.1 tt

pub returns-in_err-name-clause-ok : goal.returns-in_err-name-clause-ok
returns-in_err-name-clause-ok c = let p = err_from_is_err_and c.from_residual-in_err-name.result c.from_residual-in_err-name.ensures.1 in rw p.1 tt

pub returns-in_err-from_array-clause-ok : goal.returns-in_err-from_array-clause-ok
returns-in_err-from_array-clause-ok c = let p = err_from_is_err_and c.from_residual-in_err-from_array.result c.from_residual-in_err-from_array.ensures.1 in rw p.1 tt
