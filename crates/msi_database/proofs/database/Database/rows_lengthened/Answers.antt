use Rattle.std.proofs.Common.{◌≡◌, ◌+◌, ◌∙◌, List, [], ◌∷◌, ℕ, ap, length, refl}
use Rattle.msi_base.specs.declared.errors.ErrorKind.TheVariants.{OutOfMemory}
use Rattle.msi_base.proofs.RefusalLemmas.{err_passed}
use Rattle.msi_table_values.specs.declared.value.Value.{Value}
use Rattle.msi_table_values.specs.Columns.{ColumnDef}
use Rattle.msi_database_schema.specs.Description.{column_row, validation_row}
use Rattle.msi_database_changes.specs.Texts.{in_use}
use Rattle.msi_database_changes.specs.Insert.{table_with}
use Rattle.msi_database_changes.proofs.table_changes.ColumnAddedLemmas.{column_values, validation_values}
use Rattle.msi_database_storage.proofs.PassedLemmas.{memory_refused, no_value}
use Rattle.msi_database.proofs.table_changes.ColumnRowsLemmas.{columns_refuse, lengthened_given, validation_refuses}
use Rattle.msi_database.proofs.database.Database.rows_lengthened.Goals as goal

pub returns-in_err-sound_rows-clause-ok : goal.returns-in_err-sound_rows-clause-ok
returns-in_err-sound_rows-clause-ok c = no_value _ c.from_residual.result c.in_err-sound_rows.field-0.0 c.from_residual.ensures.1

pub returns-in_err-sound_rows-clause-kind : goal.returns-in_err-sound_rows-clause-kind
returns-in_err-sound_rows-clause-kind c = memory_refused c.from_residual.result c.in_err-sound_rows.field-0.0 _ c.from_residual.ensures.1 c.in_err-sound_rows.ensures.kind

pub returns-in_err-own-clause-ok : goal.returns-in_err-own-clause-ok
returns-in_err-own-clause-ok c = no_value _ c.from_residual-in_err-own.result c.in_err-own.field-0.0 c.from_residual-in_err-own.ensures.1

pub returns-in_err-own-clause-kind : goal.returns-in_err-own-clause-kind
returns-in_err-own-clause-kind c = memory_refused c.from_residual-in_err-own.result c.in_err-own.field-0.0 _ c.from_residual-in_err-own.ensures.1 c.in_err-own.ensures.kind

pub returns-in_err-column_row-clause-ok : goal.returns-in_err-column_row-clause-ok
returns-in_err-column_row-clause-ok c = no_value _ c.from_residual-in_err-column_row.result c.in_err-column_row.field-0.0 c.from_residual-in_err-column_row.ensures.1

pub returns-in_err-column_row-clause-kind : goal.returns-in_err-column_row-clause-kind
returns-in_err-column_row-clause-kind c = memory_refused c.from_residual-in_err-column_row.result c.in_err-column_row.field-0.0 _ c.from_residual-in_err-column_row.ensures.1 c.in_err-column_row.ensures.kind

pub returns-in_err-describing-clause-ok : goal.returns-in_err-describing-clause-ok
returns-in_err-describing-clause-ok c = no_value _ c.from_residual-in_err-describing.result OutOfMemory c.from_residual-in_err-describing.ensures.1

pub returns-in_err-describing-clause-kind : goal.returns-in_err-describing-clause-kind
returns-in_err-describing-clause-kind c = memory_refused c.from_residual-in_err-describing.result OutOfMemory _ c.from_residual-in_err-describing.ensures.1 refl

pub returns-in_err-columns-clause-ok : goal.returns-in_err-columns-clause-ok
returns-in_err-columns-clause-ok c = no_value _ c.from_residual-in_err-columns.result c.in_err-columns.field-0.0 c.from_residual-in_err-columns.ensures.1

pub returns-in_err-columns-clause-kind : goal.returns-in_err-columns-clause-kind
returns-in_err-columns-clause-kind c = err_passed c.from_residual-in_err-columns.result c.in_err-columns.field-0.0 _ c.from_residual-in_err-columns.ensures.1
    (columns_refuse c.args.self.now.database c.args.table.now c.args.column.now (in_use c.args.pool.now) c.in_ok-sound_rows.field-0.items c.in_ok-sound_rows.ensures.ok
    c.in_ok-describing.describing.items (c.in_ok-describing.ensures.items ∙ ap (λ (row : List Value). row ∷ []) (c.in_ok-column_row.ensures.ok
    ∙ (λ i. column_row (c.name-name.ensures i) ((c.next_number-number.ensures ∙ ap (λ (cs : List ColumnDef). length cs + 1) c.columns.ensures.columns) i, c.args.column.now)))) c.in_err-columns.field-0.0 c.in_err-columns.ensures.kind)

pub returns-in_err-validation_row-clause-ok : goal.returns-in_err-validation_row-clause-ok
returns-in_err-validation_row-clause-ok c = no_value _ c.from_residual-in_err-validation_row.result c.in_err-validation_row.field-0.0 c.from_residual-in_err-validation_row.ensures.1

pub returns-in_err-validation_row-clause-kind : goal.returns-in_err-validation_row-clause-kind
returns-in_err-validation_row-clause-kind c = memory_refused c.from_residual-in_err-validation_row.result c.in_err-validation_row.field-0.0 _ c.from_residual-in_err-validation_row.ensures.1 c.in_err-validation_row.ensures.kind

pub returns-in_err-validating-clause-ok : goal.returns-in_err-validating-clause-ok
returns-in_err-validating-clause-ok c = no_value _ c.from_residual-in_err-validating.result OutOfMemory c.from_residual-in_err-validating.ensures.1

pub returns-in_err-validating-clause-kind : goal.returns-in_err-validating-clause-kind
returns-in_err-validating-clause-kind c = memory_refused c.from_residual-in_err-validating.result OutOfMemory _ c.from_residual-in_err-validating.ensures.1 refl

pub returns-in_err-validation-clause-ok : goal.returns-in_err-validation-clause-ok
returns-in_err-validation-clause-ok c = no_value _ c.from_residual-in_err-validation.result c.in_err-validation.field-0.0 c.from_residual-in_err-validation.ensures.1

pub returns-in_err-validation-clause-kind : goal.returns-in_err-validation-clause-kind
returns-in_err-validation-clause-kind c = err_passed c.from_residual-in_err-validation.result c.in_err-validation.field-0.0 _ c.from_residual-in_err-validation.ensures.1
    (validation_refuses c.args.self.now.database c.args.table.now c.args.column.now (in_use c.args.pool.now) c.in_ok-sound_rows.field-0.items c.in_ok-sound_rows.ensures.ok
    c.in_ok-describing.describing.items (c.in_ok-describing.ensures.items ∙ ap (λ (row : List Value). row ∷ []) (c.in_ok-column_row.ensures.ok
    ∙ (λ i. column_row (c.name-name.ensures i) ((c.next_number-number.ensures ∙ ap (λ (cs : List ColumnDef). length cs + 1) c.columns.ensures.columns) i, c.args.column.now)))) c.in_ok-columns.columns.items (in_use c.rows_with.new.pool) c.in_ok-columns.ensures.ok c.in_ok-validating.validating.items (c.in_ok-validating.ensures.items ∙ ap (λ (row : List Value). row ∷ []) (c.in_ok-validation_row.ensures.ok
    ∙ ap (λ (name : List ℕ). validation_row name c.args.column.now) c.name-name.ensures)) c.in_err-validation.field-0.0 c.in_err-validation.ensures.kind)

pub returns-clause-ok : goal.returns-clause-ok
returns-clause-ok c = lengthened_given c.args.self.now.database c.args.table.now c.args.column.now (in_use c.args.pool.now) c.in_ok-sound_rows.field-0.items c.in_ok-sound_rows.ensures.ok
    c.in_ok-describing.describing.items (c.in_ok-describing.ensures.items ∙ ap (λ (row : List Value). row ∷ []) (c.in_ok-column_row.ensures.ok
    ∙ (λ i. column_row (c.name-name.ensures i) ((c.next_number-number.ensures ∙ ap (λ (cs : List ColumnDef). length cs + 1) c.columns.ensures.columns) i, c.args.column.now)))) c.in_ok-columns.columns.items (in_use c.rows_with.new.pool) c.in_ok-columns.ensures.ok c.in_ok-validating.validating.items (c.in_ok-validating.ensures.items ∙ ap (λ (row : List Value). row ∷ []) (c.in_ok-validation_row.ensures.ok
    ∙ ap (λ (name : List ℕ). validation_row name c.args.column.now) c.name-name.ensures))
    c.in_ok-validation.validation.items (in_use c.rows_with-2.new.pool) c.in_ok-validation.ensures.ok c.in_ok-own.own.items c.in_ok-own.ensures.ok

pub returns-clause-kind : goal.returns-clause-kind
returns-clause-kind c = tt
