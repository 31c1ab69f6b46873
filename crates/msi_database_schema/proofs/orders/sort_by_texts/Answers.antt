use Rattle.std.proofs.Common.{◌≡◌, rules, ap}
use Rattle.std.proofs.lemmas.Fn.{always_returns_same}
use Rattle.std.proofs.lemmas.Result.{IfOk-at_ok}
use Rattle.std.specs.Ordering.{is_lt}
use Rattle.msi_base.specs.Lists.{stable_sort}
use Rattle.msi_table_cells.proofs.StableSortLemmas.{sorted_by_closure}
use Rattle.msi_database_schema.specs.RowOrders.{by_texts, texts_at, texts_cmp}
use Rattle.msi_database_schema.proofs.OrderLemmas.{order-weak}
use Rattle.msi_database_schema.proofs.RowOrderLemmas.{texts_total}
use Rattle.msi_database_schema.proofs.orders.sort_by_texts.Goals as goal

pub returns-clause-ok : goal.returns-clause-ok
returns-clause-ok c =
    IfOk-at_ok (λ _. c.sort_by.new.self.items ≡ stable_sort (by_texts c.args.place) c.args.rows.now.items) c.in_ok-sort_by.was
    (sorted_by_closure _ _ (by_texts c.args.place) (order-weak (texts_at c.args.place) texts_cmp texts_total)
    (always_returns_same _ _ _ (λ a r f' h. let e : r ≡ by_texts c.args.place a.0.now a.1.0.now = search rules in (ap is_lt e, search rules)))
    c.args.rows.now.items c.sort_by.new.self.items c.sort_by.result c.sort_by.ensures.sorted c.sort_by.ensures.stable)
