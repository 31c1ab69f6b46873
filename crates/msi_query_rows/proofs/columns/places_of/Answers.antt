use Rattle.std.proofs.Common.{refl}
use Rattle.msi_base.specs.declared.errors.ErrorKind.TheVariants.{OutOfMemory}
use Rattle.msi_query_rows.proofs.RefusedLemmas.{memory_passed, no_value}
use Rattle.msi_query_rows.proofs.columns.places_of.Goals as goal

pub returns-in_err-push-clause-ok : goal.returns-in_err-push-clause-ok
returns-in_err-push-clause-ok c = no_value _ c.from_residual.result OutOfMemory c.from_residual.ensures.1

pub returns-in_err-push-clause-kind : goal.returns-in_err-push-clause-kind
returns-in_err-push-clause-kind c = memory_passed c.from_residual.result OutOfMemory c.from_residual.ensures.1 refl
