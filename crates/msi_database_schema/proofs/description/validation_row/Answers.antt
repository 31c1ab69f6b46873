use Rattle.std.proofs.lemmas.Result.{err_from_is_err_and}
use Rattle.msi_database_schema.proofs.description.validation_row.Goals as goal

pub returns-in_err-table-clause-ok : goal.returns-in_err-table-clause-ok
returns-in_err-table-clause-ok c = let p = err_from_is_err_and c.from_residual.result c.from_residual.ensures.1 in rw p.1 tt

pub returns-in_err-name-clause-ok : goal.returns-in_err-name-clause-ok
returns-in_err-name-clause-ok c = let p = err_from_is_err_and c.from_residual-in_err-name.result c.from_residual-in_err-name.ensures.1 in rw p.1 tt

pub returns-in_err-nullable-clause-ok : goal.returns-in_err-nullable-clause-ok
returns-in_err-nullable-clause-ok c = let p = err_from_is_err_and c.from_residual-in_err-nullable.result c.from_residual-in_err-nullable.ensures.1 in rw p.1 tt

pub returns-in_err-key_table-clause-ok : goal.returns-in_err-key_table-clause-ok
returns-in_err-key_table-clause-ok c = let p = err_from_is_err_and c.from_residual-in_err-key_table.result c.from_residual-in_err-key_table.ensures.1 in rw p.1 tt

pub returns-in_err-category-clause-ok : goal.returns-in_err-category-clause-ok
returns-in_err-category-clause-ok c = let p = err_from_is_err_and c.from_residual-in_err-category.result c.from_residual-in_err-category.ensures.1 in rw p.1 tt

pub returns-in_err-listed-clause-ok : goal.returns-in_err-listed-clause-ok
returns-in_err-listed-clause-ok c = let p = err_from_is_err_and c.from_residual-in_err-listed.result c.from_residual-in_err-listed.ensures.1 in rw p.1 tt

pub returns-in_err-from_array-clause-ok : goal.returns-in_err-from_array-clause-ok
returns-in_err-from_array-clause-ok c = let p = err_from_is_err_and c.from_residual-in_err-from_array.result c.from_residual-in_err-from_array.ensures.1 in rw p.1 tt
