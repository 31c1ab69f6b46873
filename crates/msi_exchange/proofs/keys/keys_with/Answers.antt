use Rattle.std.proofs.Common.{◌≡◌, ◌+◌, ℕ, List, Bor, None, ap, map, subst, sym, ◌∙◌}
use Rattle.msi_exchange.specs.Fields.{text_in}
use Rattle.msi_exchange.specs.Places.{IsAt, at, first_wrong, unless_read}
use Rattle.msi_exchange.specs.WrongPlaces.{name_wrong, table_number}
use Rattle.msi_exchange.proofs.PlaceLemmas.{at_first, at_later, none_wrong, placed_on}
use Rattle.msi_exchange.proofs.keys.keys_with.Goals as goal

abbrev shown : Bor (List ℕ) → List ℕ
shown field = field.now

pub returns-in_err-table-clause-place : goal.returns-in_err-table-clause-place
returns-in_err-table-clause-place c =
    placed_on c.from_residual.result c.in_err-table.field-0.0 _ c.from_residual.ensures.1
    (at_first c.in_err-table.field-0.0.place c.in_err-table.field-0.0.kind _ _
    (subst (λ (n : ℕ). IsAt c.in_err-table.field-0.0.place c.in_err-table.field-0.0.kind (unless_read (text_in c.args.table.now) (at 3 n))) c.table_field-field.ensures.field c.in_err-table.ensures.place))

pub returns-in_err-keys-clause-place : goal.returns-in_err-keys-clause-place
returns-in_err-keys-clause-place c =
    let table : unless_read (text_in c.args.table.now) (at 3 (table_number c.args.page)) ≡ None = ap (λ (n : ℕ). unless_read (text_in c.args.table.now) (at 3 n)) (sym c.table_field-field.ensures.field) ∙ c.in_ok-table.ensures.place in
    placed_on c.from_residual-in_err-keys.result c.in_err-keys.field-0.0 _ c.from_residual-in_err-keys.ensures.1
    (at_later c.in_err-keys.field-0.0.place c.in_err-keys.field-0.0.kind _ _ table
    (subst (λ (n : ℕ). IsAt c.in_err-keys.field-0.0.place c.in_err-keys.field-0.0.kind (first_wrong name_wrong (n + 1) (map shown c.args.keys.now))) c.table_field-field.ensures.field c.in_err-keys.ensures.place))

pub returns-clause-place : goal.returns-clause-place
returns-clause-place c =
    let table : unless_read (text_in c.args.table.now) (at 3 (table_number c.args.page)) ≡ None = ap (λ (n : ℕ). unless_read (text_in c.args.table.now) (at 3 n)) (sym c.table_field-field.ensures.field) ∙ c.in_ok-table.ensures.place in
    none_wrong _ _ table (ap (λ (n : ℕ). first_wrong name_wrong (n + 1) (map shown c.args.keys.now)) (sym c.table_field-field.ensures.field) ∙ c.in_ok-keys.ensures.place)
