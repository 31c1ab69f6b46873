use Rattle.std.proofs.Common.{rules, of_calls}
use Rattle.std.specs.Ordering.{is_lt}
use Rattle.std.proofs.lemmas.Fn.{always_returns_same}
use Rattle.msi_database_schema.specs.RowOrders.{by_values}
use Rattle.msi_database_schema.proofs.orders.ascends_strictly.Goals as goal

pub returns : goal.returns
returns c = c.is_sorted_by.ensures.cases (λ row other. is_lt (by_values c.args.place row other))
    (always_returns_same _ _ _ (λ a r f' h. (search (rules, of_calls), search (rules, of_calls))))
