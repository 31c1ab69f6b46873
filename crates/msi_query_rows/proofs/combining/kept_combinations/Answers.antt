use Rattle.std.proofs.Common.{◌≡◌, rules, ap, ◌∙◌}
use Rattle.std.proofs.lemmas.Fn.{always_returns_same}
use Rattle.std.proofs.lemmas.Result.{IfOk-at_ok}
use Rattle.std.specs.Ordering.{is_lt}
use Rattle.msi_base.specs.Lists.{stable_sort}
use Rattle.msi_table_cells.proofs.StableSortLemmas.{sorted_by_closure}
use Rattle.msi_query_rows.specs.Combinations.{combination_cmp}
use Rattle.msi_query_rows.proofs.CombinationLemmas.{combination_cmp-weak}
use Rattle.msi_query_rows.proofs.combining.kept_combinations.Goals as goal

pub returns-clause-ok : goal.returns-clause-ok
returns-clause-ok c =
    IfOk-at_ok (λ _. c.sort_by.new.self.items ≡ stable_sort combination_cmp c.in_ok-found.found.items) c.in_ok-sort_by.was
    (sorted_by_closure _ _ combination_cmp combination_cmp-weak
    (always_returns_same _ _ _ (λ a r f' h. let e : r ≡ combination_cmp a.0.now a.1.0.now = search rules in (ap is_lt e, search rules)))
    c.in_ok-found.found.items c.sort_by.new.self.items c.sort_by.result c.sort_by.ensures.sorted c.sort_by.ensures.stable)
    ∙ c.in_ok-found.ensures.ok
