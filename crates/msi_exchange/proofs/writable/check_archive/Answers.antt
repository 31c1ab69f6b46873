use Rattle.std.proofs.Common.{ap, subst, sym, ◌∙◌}
use Rattle.msi_exchange.specs.Places.{IsAt, Placed, first_wrong}
use Rattle.msi_exchange.specs.WrongPlaces.{column_unwritable, row_unwritable}
use Rattle.msi_exchange.proofs.PlaceLemmas.{at_first, at_later, placed_later, placed_on}
use Rattle.msi_exchange.proofs.writable.check_archive.Goals as goal

pub returns-in_err-check_columns-clause-place : goal.returns-in_err-check_columns-clause-place
returns-in_err-check_columns-clause-place c =
    placed_on c.from_residual.result c.in_err-check_columns.field-0.0 _ c.from_residual.ensures.1
    (at_first c.in_err-check_columns.field-0.0.place c.in_err-check_columns.field-0.0.kind _ _
    (subst (λ columns. IsAt c.in_err-check_columns.field-0.0.place c.in_err-check_columns.field-0.0.kind (first_wrong column_unwritable 1 columns)) c.columns.ensures c.in_err-check_columns.ensures.place))

pub returns-in_err-check_keys-clause-place : goal.returns-in_err-check_keys-clause-place
returns-in_err-check_keys-clause-place c =
    placed_on c.from_residual-in_err-check_keys.result c.in_err-check_keys.field-0.0 _ c.from_residual-in_err-check_keys.ensures.1
    (at_later c.in_err-check_keys.field-0.0.place c.in_err-check_keys.field-0.0.kind _ _
    (ap (first_wrong column_unwritable 1) (sym c.columns.ensures) ∙ c.in_ok-check_columns.ensures.place)
    (at_first c.in_err-check_keys.field-0.0.place c.in_err-check_keys.field-0.0.kind _ _ c.in_err-check_keys.ensures.place))

pub returns-clause-place : goal.returns-clause-place
returns-clause-place c =
    placed_later c.check_rows.result _ _ (ap (first_wrong column_unwritable 1) (sym c.columns.ensures) ∙ c.in_ok-check_columns.ensures.place)
    (placed_later c.check_rows.result _ _ c.in_ok-check_keys.ensures.place
    (subst (λ columns. Placed c.check_rows.result (first_wrong (row_unwritable columns) 4 c.args.archive.now.rows)) c.columns-2.ensures
    (subst (λ rows. Placed c.check_rows.result (first_wrong (row_unwritable c.columns-2.result.now) 4 rows)) c.rows.ensures c.check_rows.ensures.place)))
