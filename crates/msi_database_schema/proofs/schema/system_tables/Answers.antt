use Rattle.std.proofs.lemmas.Result.{err_from_is_err_and}
use Rattle.msi_database_schema.proofs.schema.system_tables.Goals as goal

pub returns-in_err-tables_columns-clause-ok : goal.returns-in_err-tables_columns-clause-ok
returns-in_err-tables_columns-clause-ok c = let p = err_from_is_err_and c.from_residual.result c.from_residual.ensures.1 in rw p.1 tt

pub returns-in_err-named_table-clause-ok : goal.returns-in_err-named_table-clause-ok
returns-in_err-named_table-clause-ok c = let p = err_from_is_err_and c.from_residual-in_err-named_table.result c.from_residual-in_err-named_table.ensures.1 in rw p.1 tt

pub returns-in_err-columns_columns-clause-ok : goal.returns-in_err-columns_columns-clause-ok
returns-in_err-columns_columns-clause-ok c = let p = err_from_is_err_and c.from_residual-in_err-columns_columns.result c.from_residual-in_err-columns_columns.ensures.1 in rw p.1 tt

pub returns-in_err-named_table-2-clause-ok : goal.returns-in_err-named_table-2-clause-ok
returns-in_err-named_table-2-clause-ok c = let p = err_from_is_err_and c.from_residual-in_err-named_table-2.result c.from_residual-in_err-named_table-2.ensures.1 in rw p.1 tt

pub returns-in_err-from_array-clause-ok : goal.returns-in_err-from_array-clause-ok
returns-in_err-from_array-clause-ok c = let p = err_from_is_err_and c.from_residual-in_err-from_array.result c.from_residual-in_err-from_array.ensures.1 in rw p.1 tt
