use Rattle.std.proofs.Common.{◌≡◌, ◌++◌, take}
use Rattle.msi_query_rows.specs.Combinations.{if_whole, is_kept, rows_of_each, with_each}
use Rattle.msi_query_rows.proofs.combining.add_each.Given as goal

abbrev pub invariant-loop-number : goal.invariant-loop-number
invariant-loop-number l = record {
  found : l.found.items ≡ l.initial.found.items
      ++ with_each (if_whole l.is_whole (is_kept l.product.pool.now.places l.product.filter.now (rows_of_each l.product.relations.now))) l.relation (take l.number-index l.numbers) l.combination;
}
