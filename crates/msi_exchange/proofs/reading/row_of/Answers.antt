use Rattle.std.proofs.Common.{◌≡◌, ℕ, List, Bor, ap, map, subst, sym, ◌∙◌}
use Rattle.msi_exchange.specs.Fields.{fields}
use Rattle.msi_exchange.specs.Places.{IsAt}
use Rattle.msi_exchange.specs.WrongPlaces.{cells_wrong}
use Rattle.msi_exchange.proofs.PlaceLemmas.{no_place, placed_on}
use Rattle.msi_exchange.proofs.reading.row_of.Goals as goal

abbrev shown : Bor (List ℕ) → List ℕ
shown field = field.now

pub returns-in_err-fields-clause-place : goal.returns-in_err-fields-clause-place
returns-in_err-fields-clause-place c = no_place c.from_residual.result _ c.from_residual.ensures.1

pub returns-in_err-row-clause-place : goal.returns-in_err-row-clause-place
returns-in_err-row-clause-place c =
    let parts : map shown c.as_slice.result.now ≡ fields c.args.line.now = ap (map shown) c.as_slice.ensures.value ∙ c.in_ok-fields.ensures in
    placed_on c.from_residual-in_err-row.result c.in_err-row.field-0.0 _ c.from_residual-in_err-row.ensures.1
    (subst (λ cells. IsAt c.in_err-row.field-0.0.place c.in_err-row.field-0.0.kind (cells_wrong c.args.columns.now c.args.number cells)) parts c.in_err-row.ensures.place)

pub returns-clause-place : goal.returns-clause-place
returns-clause-place c =
    let parts : map shown c.as_slice.result.now ≡ fields c.args.line.now = ap (map shown) c.as_slice.ensures.value ∙ c.in_ok-fields.ensures in
    ap (cells_wrong c.args.columns.now c.args.number) (sym parts) ∙ c.in_ok-row.ensures.place
