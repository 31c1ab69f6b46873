use Rattle.std.proofs.Common.{◌≡◌, ap, subst, sym, ◌∙◌}
use Rattle.msi_exchange.specs.Places.{IsAt, Placed, at, unless}
use Rattle.msi_exchange.specs.Writing.{has_field, has_width}
use Rattle.msi_exchange.proofs.PlaceLemmas.{at_first, placed_later, placed_on}
use Rattle.msi_exchange.proofs.writable.check_column.Goals as goal

pub returns-in_err-check-clause-place : goal.returns-in_err-check-clause-place
returns-in_err-check-clause-place c =
    let holds : c.has_field.result ≡ has_field c.args.column.now.name = c.has_field.ensures ∙ ap has_field c.name.ensures in
    placed_on c.from_residual.result c.in_err-check.field-0.0 _ c.from_residual.ensures.1
    (at_first c.in_err-check.field-0.0.place c.in_err-check.field-0.0.kind _ _
    (subst (λ b. IsAt c.in_err-check.field-0.0.place c.in_err-check.field-0.0.kind (unless b (at 1 c.args.number))) holds c.in_err-check.ensures.place))

pub returns-clause-place : goal.returns-clause-place
returns-clause-place c =
    let type = c.args.column.now.field_type in
    let named : c.has_field.result ≡ has_field c.args.column.now.name = c.has_field.ensures ∙ ap has_field c.name.ensures in
    let holds : c.has_width.result ≡ has_width type.coltype type.is_localizable =
    c.has_width.ensures ∙ ap (λ t. has_width t c.is_localizable.result) c.coltype.ensures ∙ ap (has_width type.coltype) c.is_localizable.ensures in
    placed_later c.check-2.result _ _ (ap (λ b. unless b (at 1 c.args.number)) (sym named) ∙ c.in_ok-check.ensures.place)
    (subst (λ b. Placed c.check-2.result (unless b (at 2 c.args.number))) holds c.check-2.ensures.place)
