use Rattle.std.proofs.Common.{refl}
use Rattle.msi_base.specs.declared.errors.ErrorKind.TheVariants.{OutOfMemory}
use Rattle.msi_query_rows.proofs.RefusedLemmas.{memory_passed, no_value}
use Rattle.msi_query_rows.proofs.narrowing.filtered.Goals as goal

pub returns-in_err-meets-clause-ok : goal.returns-in_err-meets-clause-ok
returns-in_err-meets-clause-ok c = no_value _ c.from_residual.result c.in_err-meets.field-0.0 c.from_residual.ensures.1

pub returns-in_err-meets-clause-kind : goal.returns-in_err-meets-clause-kind
returns-in_err-meets-clause-kind c = memory_passed c.from_residual.result c.in_err-meets.field-0.0 c.from_residual.ensures.1 c.in_err-meets.ensures.kind

pub returns-in_err-push-clause-ok : goal.returns-in_err-push-clause-ok
returns-in_err-push-clause-ok c = no_value _ c.from_residual-in_err-push.result OutOfMemory c.from_residual-in_err-push.ensures.1

pub returns-in_err-push-clause-kind : goal.returns-in_err-push-clause-kind
returns-in_err-push-clause-kind c = memory_passed c.from_residual-in_err-push.result OutOfMemory c.from_residual-in_err-push.ensures.1 refl
