use Rattle.std.proofs.Common.{◌≡◌, take, None}
use Rattle.std.specs.List.{flat_map}
use Rattle.msi_query_rows.specs.Combinations.{if_whole, is_kept, rows_of_each, with_each}
use Rattle.msi_query_rows.specs.Links.{numbers_for}
use Rattle.msi_query_rows.proofs.combining.with_all.Given as goal

abbrev pub invariant-loop-combination : goal.invariant-loop-combination
invariant-loop-combination l = record {
  more : l.more.items ≡ flat_map (λ numbers. with_each (if_whole l.is_whole (is_kept l.product.pool.now.places l.product.filter.now (rows_of_each l.product.relations.now))) l.relation
      (numbers_for l.product.pool.now.places (rows_of_each l.product.relations.now) l.relation None numbers) numbers) (take l.combination-index l.found);
}
