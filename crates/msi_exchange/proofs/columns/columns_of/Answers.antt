use Rattle.msi_exchange.proofs.PlaceLemmas.{no_place}
use Rattle.msi_exchange.proofs.columns.columns_of.Goals as goal

pub returns-in_err-names-clause-place : goal.returns-in_err-names-clause-place
returns-in_err-names-clause-place c = no_place c.from_residual.result _ c.from_residual.ensures.1

pub returns-in_err-types-clause-place : goal.returns-in_err-types-clause-place
returns-in_err-types-clause-place c = no_place c.from_residual-in_err-types.result _ c.from_residual-in_err-types.ensures.1
