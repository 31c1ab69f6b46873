use Rattle.std.proofs.Common.{List, [], ◌∷◌, ◌∙◌, ap, refl}
use Rattle.msi_base.specs.declared.errors.ErrorKind.TheVariants.{OutOfMemory}
use Rattle.msi_table_values.specs.declared.value.Value.{Value}
use Rattle.msi_database_changes.specs.Texts.{in_use}
use Rattle.msi_database_storage.proofs.PassedLemmas.{memory_refused, no_value}
use Rattle.msi_base.proofs.RefusalLemmas.{err_passed}
use Rattle.msi_database.proofs.table_changes.SystemRowsLemmas.{columns_refuse, described_given, tables_refuse, validation_refuses}
use Rattle.msi_database.proofs.database.Database.rows_described.Goals as goal

pub returns-in_err-column_rows-clause-ok : goal.returns-in_err-column_rows-clause-ok
returns-in_err-column_rows-clause-ok c = no_value _ c.from_residual.result c.in_err-column_rows.field-0.0 c.from_residual.ensures.1

pub returns-in_err-column_rows-clause-kind : goal.returns-in_err-column_rows-clause-kind
returns-in_err-column_rows-clause-kind c = memory_refused c.from_residual.result c.in_err-column_rows.field-0.0 _ c.from_residual.ensures.1 c.in_err-column_rows.ensures.kind

pub returns-in_err-in_columns-clause-ok : goal.returns-in_err-in_columns-clause-ok
returns-in_err-in_columns-clause-ok c = no_value _ c.from_residual-in_err-in_columns.result c.in_err-in_columns.field-0.0 c.from_residual-in_err-in_columns.ensures.1

pub returns-in_err-in_columns-clause-kind : goal.returns-in_err-in_columns-clause-kind
returns-in_err-in_columns-clause-kind c = err_passed c.from_residual-in_err-in_columns.result c.in_err-in_columns.field-0.0 _ c.from_residual-in_err-in_columns.ensures.1
    (columns_refuse c.args.self.now.database c.args.name.now c.args.columns.now (in_use c.args.pool.now) c.in_ok-column_rows.field-0.items c.in_err-in_columns.field-0.0 c.in_ok-column_rows.ensures.ok c.in_err-in_columns.ensures.kind)

pub returns-in_err-row-clause-ok : goal.returns-in_err-row-clause-ok
returns-in_err-row-clause-ok c = no_value _ c.from_residual-in_err-row.result c.in_err-row.field-0.0 c.from_residual-in_err-row.ensures.1

pub returns-in_err-row-clause-kind : goal.returns-in_err-row-clause-kind
returns-in_err-row-clause-kind c = memory_refused c.from_residual-in_err-row.result c.in_err-row.field-0.0 _ c.from_residual-in_err-row.ensures.1 c.in_err-row.ensures.kind

pub returns-in_err-from_array-clause-ok : goal.returns-in_err-from_array-clause-ok
returns-in_err-from_array-clause-ok c = no_value _ c.from_residual-in_err-from_array.result OutOfMemory c.from_residual-in_err-from_array.ensures.1

pub returns-in_err-from_array-clause-kind : goal.returns-in_err-from_array-clause-kind
returns-in_err-from_array-clause-kind c = memory_refused c.from_residual-in_err-from_array.result OutOfMemory _ c.from_residual-in_err-from_array.ensures.1 refl

pub returns-in_err-in_tables-clause-ok : goal.returns-in_err-in_tables-clause-ok
returns-in_err-in_tables-clause-ok c = no_value _ c.from_residual-in_err-in_tables.result c.in_err-in_tables.field-0.0 c.from_residual-in_err-in_tables.ensures.1

pub returns-in_err-in_tables-clause-kind : goal.returns-in_err-in_tables-clause-kind
returns-in_err-in_tables-clause-kind c = err_passed c.from_residual-in_err-in_tables.result c.in_err-in_tables.field-0.0 _ c.from_residual-in_err-in_tables.ensures.1
    (tables_refuse c.args.self.now.database c.args.name.now c.args.columns.now (in_use c.args.pool.now) c.in_ok-column_rows.field-0.items c.in_ok-from_array.field-0.items c.in_ok-in_columns.in_columns.items (in_use c.rows_with.new.pool) c.in_err-in_tables.field-0.0
    c.in_ok-column_rows.ensures.ok (c.in_ok-from_array.ensures.items ∙ ap (λ (row : List Value). row ∷ []) c.in_ok-row.ensures.ok) c.in_ok-in_columns.ensures.ok c.in_err-in_tables.ensures.kind)

pub returns-in_err-rows-clause-ok : goal.returns-in_err-rows-clause-ok
returns-in_err-rows-clause-ok c = no_value _ c.from_residual-in_err-rows.result c.in_err-rows.field-0.0 c.from_residual-in_err-rows.ensures.1

pub returns-in_err-rows-clause-kind : goal.returns-in_err-rows-clause-kind
returns-in_err-rows-clause-kind c = memory_refused c.from_residual-in_err-rows.result c.in_err-rows.field-0.0 _ c.from_residual-in_err-rows.ensures.1 c.in_err-rows.ensures.kind

pub returns-in_err-in_validation-clause-ok : goal.returns-in_err-in_validation-clause-ok
returns-in_err-in_validation-clause-ok c = no_value _ c.from_residual-in_err-in_validation.result c.in_err-in_validation.field-0.0 c.from_residual-in_err-in_validation.ensures.1

pub returns-in_err-in_validation-clause-kind : goal.returns-in_err-in_validation-clause-kind
returns-in_err-in_validation-clause-kind c = err_passed c.from_residual-in_err-in_validation.result c.in_err-in_validation.field-0.0 _ c.from_residual-in_err-in_validation.ensures.1
    (validation_refuses c.args.self.now.database c.args.name.now c.args.columns.now (in_use c.args.pool.now) c.in_ok-column_rows.field-0.items c.in_ok-from_array.field-0.items c.in_ok-rows.rows.items c.in_ok-in_columns.in_columns.items c.in_ok-in_tables.in_tables.items (in_use c.rows_with.new.pool) (in_use c.rows_with-2.new.pool) c.in_err-in_validation.field-0.0
    c.in_ok-column_rows.ensures.ok (c.in_ok-from_array.ensures.items ∙ ap (λ (row : List Value). row ∷ []) c.in_ok-row.ensures.ok) c.in_ok-rows.ensures.ok c.in_ok-in_columns.ensures.ok c.in_ok-in_tables.ensures.ok c.in_err-in_validation.ensures.kind)

pub returns-clause-ok : goal.returns-clause-ok
returns-clause-ok c = described_given c.args.self.now.database c.args.name.now c.args.columns.now (in_use c.args.pool.now) c.in_ok-column_rows.field-0.items c.in_ok-from_array.field-0.items c.in_ok-rows.rows.items c.in_ok-in_columns.in_columns.items c.in_ok-in_tables.in_tables.items c.in_ok-in_validation.in_validation.items (in_use c.rows_with.new.pool) (in_use c.rows_with-2.new.pool) (in_use c.rows_with-3.new.pool)
    c.in_ok-column_rows.ensures.ok (c.in_ok-from_array.ensures.items ∙ ap (λ (row : List Value). row ∷ []) c.in_ok-row.ensures.ok) c.in_ok-rows.ensures.ok c.in_ok-in_columns.ensures.ok c.in_ok-in_tables.ensures.ok c.in_ok-in_validation.ensures.ok

pub returns-clause-kind : goal.returns-clause-kind
returns-clause-kind c = tt
