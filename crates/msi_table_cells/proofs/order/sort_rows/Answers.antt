use Rattle.std.proofs.Common.{◌≡◌, rules, ap}
use Rattle.std.proofs.lemmas.Fn.{always_returns_same}
use Rattle.std.specs.Ordering.{is_lt}
use Rattle.msi_table_cells.specs.StoredOrder.{row_cmp}
use Rattle.msi_table_cells.proofs.RowOrderLemmas.{row_cmp-weak}
use Rattle.msi_table_cells.proofs.StableSortLemmas.{sorted_by_closure}
use Rattle.msi_table_cells.proofs.order.sort_rows.Goals as goal

pub returns-clause-ok : goal.returns-clause-ok
returns-clause-ok c = sorted_by_closure _ _ (row_cmp c.args.columns.now) (row_cmp-weak c.args.columns.now)
    (always_returns_same _ _ _ (λ a r f' h. let e : r ≡ row_cmp c.args.columns.now a.0.now a.1.0.now = search rules in (ap is_lt e, search rules)))
    c.args.rows.now.items c.sort_by.new.self.items c.sort_by.result c.sort_by.ensures.sorted c.sort_by.ensures.stable
