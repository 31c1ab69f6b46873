use Rattle.std.proofs.Common.{◌≡◌, rules, ap}
use Rattle.std.proofs.lemmas.Fn.{always_returns_same}
use Rattle.std.proofs.lemmas.Result.{IfOk-at_ok}
use Rattle.std.specs.Ordering.{is_lt}
use Rattle.msi_base.specs.Lists.{stable_sort}
use Rattle.msi_table_cells.proofs.StableSortLemmas.{sorted_by_closure}
use Rattle.msi_query_rows.specs.Order.{values_at_cmp}
use Rattle.msi_query_rows.proofs.OrderLemmas.{values_at_cmp-weak}
use Rattle.msi_query_rows.proofs.ordering.sort_by_places.Goals as goal

pub returns-clause-ok : goal.returns-clause-ok
returns-clause-ok c =
    let cmp = values_at_cmp c.args.pool.now.places c.args.places.now in
    IfOk-at_ok (λ _. c.sort_by.new.self.items ≡ stable_sort cmp c.args.rows.now.items) c.in_ok-sort_by.was
    (sorted_by_closure _ _ cmp (values_at_cmp-weak c.args.pool.now.places c.args.places.now)
    (always_returns_same _ _ _ (λ a r f' h. let e : r ≡ cmp a.0.now a.1.0.now = search rules in (ap is_lt e, search rules)))
    c.args.rows.now.items c.sort_by.new.self.items c.sort_by.result c.sort_by.ensures.sorted c.sort_by.ensures.stable)
