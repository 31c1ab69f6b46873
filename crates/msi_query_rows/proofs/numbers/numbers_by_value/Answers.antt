use Rattle.std.proofs.Common.{◌≡◌, ℕ, rules, ap, ◌∙◌}
use Rattle.std.proofs.lemmas.Fn.{always_returns_same}
use Rattle.std.proofs.lemmas.Result.{IfOk-at_ok}
use Rattle.std.specs.Ordering.{is_lt}
use Rattle.msi_base.specs.Lists.{stable_sort}
use Rattle.msi_table_values.specs.declared.value.Value.{Value}
use Rattle.msi_table_values.specs.OrderLaws.{value_cmp-total}
use Rattle.msi_table_cells.proofs.StableSortLemmas.{sorted_by_closure}
use Rattle.msi_query_rows.specs.Combinations.{numbered_row}
use Rattle.msi_query_rows.specs.Index.{value_there}
use Rattle.msi_query_rows.proofs.FoundLemmas.{key_cmp, key_cmp-weak}
use Rattle.msi_query_rows.proofs.numbers.numbers_by_value.Goals as goal

pub returns-clause-ok : goal.returns-clause-ok
returns-clause-ok c =
    let value : ℕ → Value = λ i. value_there c.args.pool.now.places c.args.column (numbered_row c.args.rows.now i) in
    IfOk-at_ok (λ _. c.sort_by.new.self.items ≡ stable_sort (key_cmp value_cmp-total value) c.in_ok-numbers.numbers.items) c.in_ok-sort_by.was
    (sorted_by_closure _ _ (key_cmp value_cmp-total value) (key_cmp-weak value_cmp-total value)
    (always_returns_same _ _ _ (λ a r f' h. let e : r ≡ key_cmp value_cmp-total value a.0.now a.1.0.now = search rules in (ap is_lt e, search rules)))
    c.in_ok-numbers.numbers.items c.sort_by.new.self.items c.sort_by.result c.sort_by.ensures.sorted c.sort_by.ensures.stable)
    ∙ ap (stable_sort (key_cmp value_cmp-total value)) c.in_ok-numbers.ensures.ok
