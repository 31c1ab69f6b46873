use Rattle.std.proofs.Common.{◌≡◌, ◌∙◌, ◌+◌, sym, subst, List}
use Rattle.std.specs.Ordering.{is_eq, is_lt}
use Rattle.std.specs.List.{IsAllAdjacentAnswer}
use Rattle.msi_table_values.specs.declared.value.Value.{Value}
use Rattle.msi_database_schema.specs.RowOrders.{by_values, values_at, values_cmp}
use Rattle.msi_database_schema.specs.Schema.{share_key}
use Rattle.msi_database_schema.proofs.OrderLemmas.{pairs_alike, repeats_told}
use Rattle.msi_database_schema.proofs.RowOrderLemmas.{shared, values_total}
use Rattle.msi_database_schema.proofs.orders.has_repeat.Goals as goal

pub returns-clause-ok : goal.returns-clause-ok
returns-clause-ok c =
    let place = c.args.place in
    repeats_told (values_at place) values_cmp values_total c.args.rows.items c.ascends_strictly.result
    (subst (λ (l : List (List Value)). IsAllAdjacentAnswer (λ row other b. b ≡ is_lt (by_values place row other)) l c.ascends_strictly.result)
    (c.as_slice.ensures.value ∙ c.in_ok-sort_by_values.ensures.ok) c.ascends_strictly.ensures)
    ∙ sym (pairs_alike (share_key (place + 1)) (λ row other. is_eq (by_values place row other)) c.args.rows.items (shared place c.requires))
