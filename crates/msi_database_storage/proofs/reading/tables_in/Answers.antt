use Rattle.std.proofs.Common.{◌∙◌, ap, sym, Some}
use Rattle.std.specs.FinMap.{entries}
use Rattle.msi_base.proofs.RefusalLemmas.{err_passed}
use Rattle.msi_database_storage.proofs.ReadingLemmas.{standard_stored, unread_refused}
use Rattle.msi_database_storage.proofs.reading.tables_in.Goals as goal

pub tables_beside-requires-clause-validation : goal.tables_beside-requires-clause-validation
tables_beside-requires-clause-validation c =
    standard_stored (entries c.args.streams.now) c.in_ok-standard.standard c.args.pool.now.long c.in_ok-standard.ensures.ok ∙ c.in_ok-validation.ensures.ok ∙ ap Some (sym c.as_slice.ensures.value)

pub returns-clause-validation : goal.returns-clause-validation
returns-clause-validation c =
    standard_stored (entries c.args.streams.now) c.in_ok-standard.standard c.args.pool.now.long c.in_ok-standard.ensures.ok ∙ c.in_ok-validation.ensures.ok

pub returns-in_err-validation-clause-kind : goal.returns-in_err-validation-clause-kind
returns-in_err-validation-clause-kind c = err_passed c.from_residual-in_err-validation.result c.in_err-validation.field-0.0 _ c.from_residual-in_err-validation.ensures.1
    (unread_refused (entries c.args.streams.now) c.args.pool.now c.in_ok-standard.standard c.in_err-validation.field-0.0 c.in_ok-standard.ensures.ok c.in_err-validation.ensures.kind)
