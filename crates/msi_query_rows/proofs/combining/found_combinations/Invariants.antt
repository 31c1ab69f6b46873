use Rattle.std.proofs.Common.{◌≡◌, length, map}
use Rattle.std.specs.List.{AllByRecursion}
use Rattle.msi_query_rows.specs.Combinations.{is_kept, rows_of_each}
use Rattle.msi_query_rows.specs.Links.{AreLinked}
use Rattle.msi_query_rows.proofs.CombinationLemmas.{IsFound}
use Rattle.msi_query_rows.proofs.StepLemmas.{count_left}
use Rattle.msi_query_rows.proofs.combining.found_combinations.Given as goal

abbrev pub invariant-loop-left : goal.invariant-loop-left
invariant-loop-left l = record {
  counted : length l.joined.items ≡ length (rows_of_each l.product.relations.now);
  found : IsFound (map length (rows_of_each l.product.relations.now))
      (λ numbers. AllByRecursion (AreLinked l.product.pool.now.places (rows_of_each l.product.relations.now) numbers) l.links)
      (is_kept l.product.pool.now.places l.product.filter.now (rows_of_each l.product.relations.now)) l.joined.items l.found.items;
}

abbrev pub decreases-loop-left : goal.decreases-loop-left
decreases-loop-left l = count_left l.joined.items
