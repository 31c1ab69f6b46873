use Rattle.msi_exchange.proofs.PlaceLemmas.{at_first, at_later, none_wrong, placed_on}
use Rattle.msi_exchange.proofs.columns.column_of.Goals as goal

pub returns-in_err-name-clause-place : goal.returns-in_err-name-clause-place
returns-in_err-name-clause-place c =
    placed_on c.from_residual.result c.in_err-name.field-0.0 _ c.from_residual.ensures.1
    (at_first c.in_err-name.field-0.0.place c.in_err-name.field-0.0.kind _ _ c.in_err-name.ensures.place)

pub returns-in_err-found-clause-place : goal.returns-in_err-found-clause-place
returns-in_err-found-clause-place c =
    placed_on c.from_residual-in_err-found.result c.in_err-found.field-0.0 _ c.from_residual-in_err-found.ensures.1
    (at_later c.in_err-found.field-0.0.place c.in_err-found.field-0.0.kind _ _ c.in_ok-name.ensures.place c.in_err-found.ensures.place)

pub returns-clause-place : goal.returns-clause-place
returns-clause-place c = none_wrong _ _ c.in_ok-name.ensures.place c.in_ok-found.ensures.place
