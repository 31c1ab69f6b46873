use Rattle.std.proofs.Common.{refl}
use Rattle.msi_base.specs.declared.errors.ErrorKind.TheVariants.{OutOfMemory}
use Rattle.msi_query_rows.proofs.RefusedLemmas.{memory_passed, no_value}
use Rattle.msi_query_rows.proofs.narrowing.projected_rows.Goals as goal

pub returns-in_err-projected-clause-ok : goal.returns-in_err-projected-clause-ok
returns-in_err-projected-clause-ok c = no_value _ c.from_residual.result OutOfMemory c.from_residual.ensures.1

pub returns-in_err-projected-clause-kind : goal.returns-in_err-projected-clause-kind
returns-in_err-projected-clause-kind c = memory_passed c.from_residual.result OutOfMemory c.from_residual.ensures.1 refl

pub returns-in_err-projected_row-clause-ok : goal.returns-in_err-projected_row-clause-ok
returns-in_err-projected_row-clause-ok c = no_value _ c.from_residual-in_err-projected_row.result c.in_err-projected_row.field-0.0 c.from_residual-in_err-projected_row.ensures.1

pub returns-in_err-projected_row-clause-kind : goal.returns-in_err-projected_row-clause-kind
returns-in_err-projected_row-clause-kind c = memory_passed c.from_residual-in_err-projected_row.result c.in_err-projected_row.field-0.0 c.from_residual-in_err-projected_row.ensures.1 c.in_err-projected_row.ensures.kind

pub returns-in_err-push-clause-ok : goal.returns-in_err-push-clause-ok
returns-in_err-push-clause-ok c = no_value _ c.from_residual-in_err-push.result OutOfMemory c.from_residual-in_err-push.ensures.1

pub returns-in_err-push-clause-kind : goal.returns-in_err-push-clause-kind
returns-in_err-push-clause-kind c = memory_passed c.from_residual-in_err-push.result OutOfMemory c.from_residual-in_err-push.ensures.1 refl
