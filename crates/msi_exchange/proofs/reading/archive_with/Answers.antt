use Rattle.std.proofs.Common.{◌≡◌, ℕ, List, Bor, None, ap, map, subst, sym, ◌∙◌}
use Rattle.std.specs.Prelude.{option_and_then}
use Rattle.msi_exchange.specs.Fields.{fields}
use Rattle.msi_exchange.specs.Places.{IsAt, first_wrong}
use Rattle.msi_exchange.specs.WrongPlaces.{keys_wrong, row_wrong}
use Rattle.msi_exchange.proofs.PlaceLemmas.{at_first, at_later, no_place, none_wrong, placed_on}
use Rattle.msi_exchange.proofs.reading.archive_with.Goals as goal

abbrev shown : Bor (List ℕ) → List ℕ
shown field = field.now

pub returns-in_err-columns-clause-place : goal.returns-in_err-columns-clause-place
returns-in_err-columns-clause-place c =
    placed_on c.from_residual.result c.in_err-columns.field-0.0 _ c.from_residual.ensures.1
    (at_first c.in_err-columns.field-0.0.place c.in_err-columns.field-0.0.kind _ _ c.in_err-columns.ensures.place)

pub returns-in_err-fields-clause-place : goal.returns-in_err-fields-clause-place
returns-in_err-fields-clause-place c = no_place c.from_residual-in_err-fields.result _ c.from_residual-in_err-fields.ensures.1

pub returns-in_err-head-clause-place : goal.returns-in_err-head-clause-place
returns-in_err-head-clause-place c =
    let parts : map shown c.as_slice.result.now ≡ fields c.args.keys.now = ap (map shown) c.as_slice.ensures.value ∙ c.in_ok-fields.ensures in
    placed_on c.from_residual-in_err-head.result c.in_err-head.field-0.0 _ c.from_residual-in_err-head.ensures.1
    (at_later c.in_err-head.field-0.0.place c.in_err-head.field-0.0.kind _ _ c.in_ok-columns.ensures.place
    (at_first c.in_err-head.field-0.0.place c.in_err-head.field-0.0.kind _ _
    (subst (λ line. IsAt c.in_err-head.field-0.0.place c.in_err-head.field-0.0.kind (keys_wrong line)) parts c.in_err-head.ensures.place)))

pub returns-in_err-rows-clause-place : goal.returns-in_err-rows-clause-place
returns-in_err-rows-clause-place c =
    let parts : map shown c.as_slice.result.now ≡ fields c.args.keys.now = ap (map shown) c.as_slice.ensures.value ∙ c.in_ok-fields.ensures in
    let none : keys_wrong (fields c.args.keys.now) ≡ None = ap keys_wrong (sym parts) ∙ c.in_ok-head.ensures.place in
    let others = map shown c.args.others.now in
    placed_on c.from_residual-in_err-rows.result c.in_err-rows.field-0.0 _ c.from_residual-in_err-rows.ensures.1
    (at_later c.in_err-rows.field-0.0.place c.in_err-rows.field-0.0.kind _ _ c.in_ok-columns.ensures.place
    (at_later c.in_err-rows.field-0.0.place c.in_err-rows.field-0.0.kind _ _ none
    (subst (λ o. IsAt c.in_err-rows.field-0.0.place c.in_err-rows.field-0.0.kind (option_and_then (λ columns. first_wrong (row_wrong columns) 4 others) o)) (sym c.in_ok-columns.ensures.value)
    (subst (λ columns. IsAt c.in_err-rows.field-0.0.place c.in_err-rows.field-0.0.kind (first_wrong (row_wrong columns) 4 others)) c.as_slice-2.ensures.value c.in_err-rows.ensures.place))))

pub returns-clause-place : goal.returns-clause-place
returns-clause-place c =
    let parts : map shown c.as_slice.result.now ≡ fields c.args.keys.now = ap (map shown) c.as_slice.ensures.value ∙ c.in_ok-fields.ensures in
    let none : keys_wrong (fields c.args.keys.now) ≡ None = ap keys_wrong (sym parts) ∙ c.in_ok-head.ensures.place in
    let others = map shown c.args.others.now in
    none_wrong _ _ c.in_ok-columns.ensures.place (none_wrong _ _ none
    (ap (option_and_then (λ columns. first_wrong (row_wrong columns) 4 others)) c.in_ok-columns.ensures.value
    ∙ ap (λ columns. first_wrong (row_wrong columns) 4 others) (sym c.as_slice-2.ensures.value) ∙ c.in_ok-rows.ensures.place))
