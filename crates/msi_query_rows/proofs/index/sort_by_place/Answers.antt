use Rattle.std.proofs.Common.{◌≡◌, rules, ap}
use Rattle.std.proofs.lemmas.Fn.{always_returns_same}
use Rattle.std.proofs.lemmas.Result.{IfOk-at_ok}
use Rattle.std.specs.Ordering.{is_lt}
use Rattle.msi_table_values.specs.OrderLaws.{value_cmp-total}
use Rattle.msi_table_cells.proofs.StableSortLemmas.{sorted_by_closure}
use Rattle.msi_query_rows.specs.Index.{in_place_order, place_cmp, value_there}
use Rattle.msi_query_rows.proofs.FoundLemmas.{key_cmp-weak}
use Rattle.msi_query_rows.proofs.index.sort_by_place.Goals as goal

pub returns-clause-ok : goal.returns-clause-ok
returns-clause-ok c =
    let places = c.args.pool.now.places in
    IfOk-at_ok (λ _. c.sort_by.new.self.items ≡ in_place_order places c.args.place c.args.rows.now.items) c.in_ok-sort_by.was
    (sorted_by_closure _ _ (place_cmp places c.args.place) (key_cmp-weak value_cmp-total (value_there places c.args.place))
    (always_returns_same _ _ _ (λ a r f' h. let e : r ≡ place_cmp places c.args.place a.0.now a.1.0.now = search rules in (ap is_lt e, search rules)))
    c.args.rows.now.items c.sort_by.new.self.items c.sort_by.result c.sort_by.ensures.sorted c.sort_by.ensures.stable)
