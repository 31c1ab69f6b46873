use Rattle.msi_database.proofs.FreshMadeLemmas.{columns_made, tables_made, validation_made}
use Rattle.std.proofs.lemmas.Result.{err_from_is_err_and}
use Rattle.msi_database.proofs.fresh.system_tables.Goals as goal

pub returns-clause-columns : goal.returns-clause-columns
returns-clause-columns c = columns_made c.in_ok-named_table.field-0 c.in_ok-columns_columns.field-0 c.in_ok-named_table.ensures.ok c.in_ok-columns_columns.ensures.ok

pub returns-clause-tables : goal.returns-clause-tables
returns-clause-tables c = tables_made c.in_ok-named_table-2.field-0 c.in_ok-tables_columns.field-0 c.in_ok-named_table-2.ensures.ok c.in_ok-tables_columns.ensures.ok

pub returns-clause-validation : goal.returns-clause-validation
returns-clause-validation c = validation_made c.in_ok-named_table-3.field-0 c.in_ok-validation_columns.field-0 c.in_ok-named_table-3.ensures.ok c.in_ok-validation_columns.ensures.ok

pub returns-in_err-columns_columns-clause-columns : goal.returns-in_err-columns_columns-clause-columns
returns-in_err-columns_columns-clause-columns c = let p = err_from_is_err_and c.from_residual.result c.from_residual.ensures.1 in rw p.1 tt

pub returns-in_err-columns_columns-clause-tables : goal.returns-in_err-columns_columns-clause-tables
returns-in_err-columns_columns-clause-tables c = let p = err_from_is_err_and c.from_residual.result c.from_residual.ensures.1 in rw p.1 tt

pub returns-in_err-columns_columns-clause-validation : goal.returns-in_err-columns_columns-clause-validation
returns-in_err-columns_columns-clause-validation c = let p = err_from_is_err_and c.from_residual.result c.from_residual.ensures.1 in rw p.1 tt

pub returns-in_err-named_table-clause-columns : goal.returns-in_err-named_table-clause-columns
returns-in_err-named_table-clause-columns c = let p = err_from_is_err_and c.from_residual-in_err-named_table.result c.from_residual-in_err-named_table.ensures.1 in rw p.1 tt

pub returns-in_err-named_table-clause-tables : goal.returns-in_err-named_table-clause-tables
returns-in_err-named_table-clause-tables c = let p = err_from_is_err_and c.from_residual-in_err-named_table.result c.from_residual-in_err-named_table.ensures.1 in rw p.1 tt

pub returns-in_err-named_table-clause-validation : goal.returns-in_err-named_table-clause-validation
returns-in_err-named_table-clause-validation c = let p = err_from_is_err_and c.from_residual-in_err-named_table.result c.from_residual-in_err-named_table.ensures.1 in rw p.1 tt

pub returns-in_err-tables_columns-clause-columns : goal.returns-in_err-tables_columns-clause-columns
returns-in_err-tables_columns-clause-columns c = let p = err_from_is_err_and c.from_residual-in_err-tables_columns.result c.from_residual-in_err-tables_columns.ensures.1 in rw p.1 tt

pub returns-in_err-tables_columns-clause-tables : goal.returns-in_err-tables_columns-clause-tables
returns-in_err-tables_columns-clause-tables c = let p = err_from_is_err_and c.from_residual-in_err-tables_columns.result c.from_residual-in_err-tables_columns.ensures.1 in rw p.1 tt

pub returns-in_err-tables_columns-clause-validation : goal.returns-in_err-tables_columns-clause-validation
returns-in_err-tables_columns-clause-validation c = let p = err_from_is_err_and c.from_residual-in_err-tables_columns.result c.from_residual-in_err-tables_columns.ensures.1 in rw p.1 tt

pub returns-in_err-named_table-2-clause-columns : goal.returns-in_err-named_table-2-clause-columns
returns-in_err-named_table-2-clause-columns c = let p = err_from_is_err_and c.from_residual-in_err-named_table-2.result c.from_residual-in_err-named_table-2.ensures.1 in rw p.1 tt

pub returns-in_err-named_table-2-clause-tables : goal.returns-in_err-named_table-2-clause-tables
returns-in_err-named_table-2-clause-tables c = let p = err_from_is_err_and c.from_residual-in_err-named_table-2.result c.from_residual-in_err-named_table-2.ensures.1 in rw p.1 tt

pub returns-in_err-named_table-2-clause-validation : goal.returns-in_err-named_table-2-clause-validation
returns-in_err-named_table-2-clause-validation c = let p = err_from_is_err_and c.from_residual-in_err-named_table-2.result c.from_residual-in_err-named_table-2.ensures.1 in rw p.1 tt

pub returns-in_err-validation_columns-clause-columns : goal.returns-in_err-validation_columns-clause-columns
returns-in_err-validation_columns-clause-columns c = let p = err_from_is_err_and c.from_residual-in_err-validation_columns.result c.from_residual-in_err-validation_columns.ensures.1 in rw p.1 tt

pub returns-in_err-validation_columns-clause-tables : goal.returns-in_err-validation_columns-clause-tables
returns-in_err-validation_columns-clause-tables c = let p = err_from_is_err_and c.from_residual-in_err-validation_columns.result c.from_residual-in_err-validation_columns.ensures.1 in rw p.1 tt

pub returns-in_err-validation_columns-clause-validation : goal.returns-in_err-validation_columns-clause-validation
returns-in_err-validation_columns-clause-validation c = let p = err_from_is_err_and c.from_residual-in_err-validation_columns.result c.from_residual-in_err-validation_columns.ensures.1 in rw p.1 tt

pub returns-in_err-named_table-3-clause-columns : goal.returns-in_err-named_table-3-clause-columns
returns-in_err-named_table-3-clause-columns c = let p = err_from_is_err_and c.from_residual-in_err-named_table-3.result c.from_residual-in_err-named_table-3.ensures.1 in rw p.1 tt

pub returns-in_err-named_table-3-clause-tables : goal.returns-in_err-named_table-3-clause-tables
returns-in_err-named_table-3-clause-tables c = let p = err_from_is_err_and c.from_residual-in_err-named_table-3.result c.from_residual-in_err-named_table-3.ensures.1 in rw p.1 tt

pub returns-in_err-named_table-3-clause-validation : goal.returns-in_err-named_table-3-clause-validation
returns-in_err-named_table-3-clause-validation c = let p = err_from_is_err_and c.from_residual-in_err-named_table-3.result c.from_residual-in_err-named_table-3.ensures.1 in rw p.1 tt
