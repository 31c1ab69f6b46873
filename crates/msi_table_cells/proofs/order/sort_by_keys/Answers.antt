use Rattle.std.proofs.Common.{◌≡◌, rules, ap}
use Rattle.std.proofs.lemmas.Fn.{always_returns_same}
use Rattle.std.proofs.lemmas.Result.{IfOk-at_ok}
use Rattle.std.specs.Ordering.{is_lt}
use Rattle.msi_table_cells.specs.KeyOrder.{key_cmp, in_key_order}
use Rattle.msi_table_cells.proofs.RowOrderLemmas.{key_cmp-weak}
use Rattle.msi_table_cells.proofs.StableSortLemmas.{sorted_by_closure}
use Rattle.msi_table_cells.proofs.order.sort_by_keys.Goals as goal

pub returns-clause-ok : goal.returns-clause-ok
returns-clause-ok c =
    IfOk-at_ok (λ _. c.sort_by.new.self.items ≡ in_key_order c.args.columns.now c.args.pool.now.places c.args.rows.now.items) c.in_ok-sort_by.was
    (sorted_by_closure _ _ (key_cmp c.args.columns.now c.args.pool.now.places) (key_cmp-weak c.args.columns.now c.args.pool.now.places)
    (always_returns_same _ _ _ (λ a r f' h. let e : r ≡ key_cmp c.args.columns.now c.args.pool.now.places a.0.now a.1.0.now = search rules in (ap is_lt e, search rules)))
    c.args.rows.now.items c.sort_by.new.self.items c.sort_by.result c.sort_by.ensures.sorted c.sort_by.ensures.stable)
