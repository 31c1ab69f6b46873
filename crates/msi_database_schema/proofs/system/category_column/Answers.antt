use Rattle.std.proofs.lemmas.Result.{err_from_is_err_and}
use Rattle.msi_database_schema.proofs.system.category_column.Goals as goal

pub returns-in_err-names-clause-ok : goal.returns-in_err-names-clause-ok
returns-in_err-names-clause-ok c = let p = err_from_is_err_and c.from_residual.result c.from_residual.ensures.1 in rw p.1 tt

pub returns-in_err-build-clause-ok : goal.returns-in_err-build-clause-ok
returns-in_err-build-clause-ok c = let p = err_from_is_err_and c.from_residual-in_err-build.result c.from_residual-in_err-build.ensures.1 in rw p.1 tt

pub returns-in_err-enum_values-clause-ok : goal.returns-in_err-enum_values-clause-ok
returns-in_err-enum_values-clause-ok c = let p = err_from_is_err_and c.from_residual-in_err-enum_values.result c.from_residual-in_err-enum_values.ensures.1 in rw p.1 tt
