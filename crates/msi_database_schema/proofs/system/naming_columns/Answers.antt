use Rattle.std.proofs.lemmas.Result.{err_from_is_err_and}
use Rattle.msi_database_schema.proofs.system.naming_columns.Goals as goal

pub returns-in_err-described_name-clause-ok : goal.returns-in_err-described_name-clause-ok
returns-in_err-described_name-clause-ok c = let p = err_from_is_err_and c.from_residual.result c.from_residual.ensures.1 in rw p.1 tt

pub returns-in_err-described_name-2-clause-ok : goal.returns-in_err-described_name-2-clause-ok
returns-in_err-described_name-2-clause-ok c = let p = err_from_is_err_and c.from_residual-in_err-described_name-2.result c.from_residual-in_err-described_name-2.ensures.1 in rw p.1 tt

pub returns-in_err-nullable_column-clause-ok : goal.returns-in_err-nullable_column-clause-ok
returns-in_err-nullable_column-clause-ok c = let p = err_from_is_err_and c.from_residual-in_err-nullable_column.result c.from_residual-in_err-nullable_column.ensures.1 in rw p.1 tt

pub returns-in_err-from_array-clause-ok : goal.returns-in_err-from_array-clause-ok
returns-in_err-from_array-clause-ok c = let p = err_from_is_err_and c.from_residual-in_err-from_array.result c.from_residual-in_err-from_array.ensures.1 in rw p.1 tt
