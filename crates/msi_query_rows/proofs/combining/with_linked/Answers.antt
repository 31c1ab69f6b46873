use Rattle.std.proofs.Common.{◌∙◌, length}
use Rattle.std.specs.List.{range_with_len}
use Rattle.msi_query_rows.specs.Combinations.{if_whole, is_kept, rows_of_each}
use Rattle.msi_query_rows.proofs.LinkLemmas.{linked_more}
use Rattle.msi_query_rows.proofs.combining.with_linked.Goals as goal

pub loop-combination-preserved : goal.loop-combination-preserved
loop-combination-preserved c =
    let product = c.args.product.now in
    record {
      more = linked_more (if_whole c.args.is_whole (is_kept product.pool.now.places product.filter.now (rows_of_each product.relations.now))) product.pool.now.places
          (rows_of_each product.relations.now) c.args.link c.args.found.now c.loop-combination.combination-index c.combination-item.result c.as_slice-combination.result.now
          c.rows_of-rows.result.now c.linked_cell-cell.result c.numbers_with-numbers.result.now c.loop-combination.more.items c.add_each.new.found.items
          c.loop-combination-test.true c.combination-item.is c.as_slice-combination.ensures c.rows_of-rows.ensures c.linked_cell-cell.ensures
          (c.numbers_with-numbers.ensures (range_with_len 0 (length c.rows_of-rows.result.now)) (c.as_slice.ensures.value ∙ c.in_ok-sorted.ensures.ok))
          c.in_ok-add_each.ensures.ok c.loop-combination.invariant.more;
    }
