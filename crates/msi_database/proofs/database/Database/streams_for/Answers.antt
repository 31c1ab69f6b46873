use Rattle.msi_database_storage.proofs.PassedLemmas.{memory_passed, no_value}
use Rattle.msi_base.specs.declared.errors.ErrorKind.TheVariants.{OutOfMemory}
use Rattle.std.proofs.Common.{refl}
use Rattle.msi_database.proofs.database.Database.streams_for.Goals as goal

pub returns-in_err-in_columns-clause-ok : goal.returns-in_err-in_columns-clause-ok
returns-in_err-in_columns-clause-ok c = no_value _ c.from_residual.result c.in_err-in_columns.field-0.0 c.from_residual.ensures.1

pub returns-in_err-in_columns-clause-kind : goal.returns-in_err-in_columns-clause-kind
returns-in_err-in_columns-clause-kind c = memory_passed c.from_residual.result c.in_err-in_columns.field-0.0 c.from_residual.ensures.1 c.in_err-in_columns.ensures.kind

pub returns-in_err-in_tables-clause-ok : goal.returns-in_err-in_tables-clause-ok
returns-in_err-in_tables-clause-ok c = no_value _ c.from_residual-in_err-in_tables.result c.in_err-in_tables.field-0.0 c.from_residual-in_err-in_tables.ensures.1

pub returns-in_err-in_tables-clause-kind : goal.returns-in_err-in_tables-clause-kind
returns-in_err-in_tables-clause-kind c = memory_passed c.from_residual-in_err-in_tables.result c.in_err-in_tables.field-0.0 c.from_residual-in_err-in_tables.ensures.1 c.in_err-in_tables.ensures.kind

pub returns-in_err-in_validation-clause-ok : goal.returns-in_err-in_validation-clause-ok
returns-in_err-in_validation-clause-ok c = no_value _ c.from_residual-in_err-in_validation.result c.in_err-in_validation.field-0.0 c.from_residual-in_err-in_validation.ensures.1

pub returns-in_err-in_validation-clause-kind : goal.returns-in_err-in_validation-clause-kind
returns-in_err-in_validation-clause-kind c = memory_passed c.from_residual-in_err-in_validation.result c.in_err-in_validation.field-0.0 c.from_residual-in_err-in_validation.ensures.1 c.in_err-in_validation.ensures.kind

pub returns-in_err-from_array-clause-ok : goal.returns-in_err-from_array-clause-ok
returns-in_err-from_array-clause-ok c = no_value _ c.from_residual-in_err-from_array.result OutOfMemory c.from_residual-in_err-from_array.ensures.1

pub returns-in_err-from_array-clause-kind : goal.returns-in_err-from_array-clause-kind
returns-in_err-from_array-clause-kind c = memory_passed c.from_residual-in_err-from_array.result OutOfMemory c.from_residual-in_err-from_array.ensures.1 refl
