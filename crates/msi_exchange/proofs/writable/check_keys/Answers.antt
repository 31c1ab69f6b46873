use Rattle.std.proofs.Common.{◌≡◌, ◌+◌, ℕ, None, ap, subst, sym, ◌∙◌}
use Rattle.msi_exchange.specs.Places.{IsAt, Placed, at, first_wrong, unless}
use Rattle.msi_exchange.specs.Writing.{has_table_field}
use Rattle.msi_exchange.specs.WrongPlaces.{key_unwritable, table_number}
use Rattle.msi_exchange.proofs.PlaceLemmas.{at_first, placed_later, placed_on}
use Rattle.msi_exchange.proofs.writable.check_keys.Goals as goal

pub returns-in_err-check-clause-place : goal.returns-in_err-check-clause-place
returns-in_err-check-clause-place c =
    let head = c.args.archive.now.head in
    let field : c.table_field-field.result ≡ table_number head.page = c.table_field-field.ensures.field ∙ ap table_number c.page-page.ensures in
    let holds : c.is_writable_table.result ≡ has_table_field head.page head.table =
    c.is_writable_table.ensures ∙ ap (λ page. has_table_field page c.table.result.now) c.page-page.ensures ∙ ap (has_table_field head.page) c.table.ensures in
    placed_on c.from_residual.result c.in_err-check.field-0.0 _ c.from_residual.ensures.1
    (at_first c.in_err-check.field-0.0.place c.in_err-check.field-0.0.kind _ _
    (subst (λ b. IsAt c.in_err-check.field-0.0.place c.in_err-check.field-0.0.kind (unless b (at 3 (table_number head.page)))) holds
    (subst (λ (n : ℕ). IsAt c.in_err-check.field-0.0.place c.in_err-check.field-0.0.kind (unless c.is_writable_table.result (at 3 n))) field c.in_err-check.ensures.place)))

pub returns-clause-place : goal.returns-clause-place
returns-clause-place c =
    let head = c.args.archive.now.head in
    let field : c.table_field-field.result ≡ table_number head.page = c.table_field-field.ensures.field ∙ ap table_number c.page-page.ensures in
    let holds : c.is_writable_table.result ≡ has_table_field head.page head.table =
    c.is_writable_table.ensures ∙ ap (λ page. has_table_field page c.table.result.now) c.page-page.ensures ∙ ap (has_table_field head.page) c.table.ensures in
    let none : unless (has_table_field head.page head.table) (at 3 (table_number head.page)) ≡ None =
    ap (λ b. unless b (at 3 (table_number head.page))) (sym holds) ∙ ap (λ (n : ℕ). unless c.is_writable_table.result (at 3 n)) (sym field) ∙ c.in_ok-check.ensures.place in
    placed_later c.check_names.result _ _ none
    (subst (λ (n : ℕ). Placed c.check_names.result (first_wrong key_unwritable (n + 1) head.keys)) field
    (subst (λ names. Placed c.check_names.result (first_wrong key_unwritable (c.table_field-field.result + 1) names)) c.keys.ensures c.check_names.ensures.place))
