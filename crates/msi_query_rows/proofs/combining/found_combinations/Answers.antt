use Rattle.std.proofs.Common.{◌≡◌, Bool, List, not, ap, sym, refl, ◌∙◌, true, false, length, ◌<◌, arith, rules}
use Rattle.std.specs.Prelude.{find, replicate, slice_set}
use Rattle.std.specs.List.{list_all, position}
use Rattle.std.proofs.Math.ListN.{length-set}
use Rattle.msi_query_rows.specs.Combinations.{rows_of_each}
use Rattle.msi_query_rows.specs.Links.{connects}
use Rattle.msi_query_rows.proofs.LinkLemmas.{found_start, found_whole, found_with, next_inside, next_less, start_counted}
use Rattle.msi_query_rows.proofs.combining.found_combinations.Goals as goal

pub loop-left-init : goal.loop-left-init
loop-left-init c =
    let none : c.in_ok-joined.joined.items ≡ replicate (length c.args.product.now.relations.now) false = search rules in
    record {
      counted = start_counted c.args.product.now.relations.now c.in_ok-joined.joined.items none;
      found = found_start c.args.product.now.relations.now _ _ c.in_ok-joined.joined.items c.in_ok-found.found.items none c.in_ok-found.ensures.ok;
    }

pub index_mut-requires : goal.index_mut-requires
index_mut-requires c =
    let inside : c.relation_next-relation.result < length c.loop-left.joined.items =
    next_inside c.loop-left.joined.items c.args.links.now c.in-Some.left c.next_link-link.result c.relation_next-relation.result
    (sym (c.in-Some.ensures ∙ ap (position not) c.as_slice.ensures.value))
    (c.next_link-link.ensures ∙ ap (λ (js : List Bool). find (connects js) c.args.links.now) c.as_slice-in-Some.ensures.value)
    c.relation_next-relation.ensures in
    omega (arith, inside, ap length c.as_slice.ensures.value, c.as_slice.ensures.len)

pub loop-left-smaller : goal.loop-left-smaller
loop-left-smaller c =
    next_less c.loop-left.joined.items c.args.links.now c.in-Some.left c.next_link-link.result c.relation_next-relation.result
    (sym (c.in-Some.ensures ∙ ap (position not) c.as_slice.ensures.value))
    (c.next_link-link.ensures ∙ ap (λ (js : List Bool). find (connects js) c.args.links.now) c.as_slice-in-Some.ensures.value)
    c.relation_next-relation.ensures

pub loop-left-preserved : goal.loop-left-preserved
loop-left-preserved c =
    let product = c.args.product.now in
    let marked : List Bool = slice_set c.loop-left.joined.items c.relation_next-relation.result true in
    record {
      counted = length-set c.loop-left.joined.items c.relation_next-relation.result true ∙ c.loop-left.invariant.counted;
      found = found_with product.pool.now.places product.filter.now (rows_of_each product.relations.now) c.args.links.now c.loop-left.joined.items c.loop-left.found.items
          c.in-Some.left c.next_link-link.result c.relation_next-relation.result marked c.are_joined-is_whole.result c.as_slice-in-Some-3.result.now c.in_ok-found-2.found.items
          c.as_slice-in-Some-3.ensures.value c.loop-left.invariant.counted
          (sym (c.in-Some.ensures ∙ ap (position not) c.as_slice.ensures.value))
          (c.next_link-link.ensures ∙ ap (λ (js : List Bool). find (connects js) c.args.links.now) c.as_slice-in-Some.ensures.value)
          c.relation_next-relation.ensures refl (c.are_joined-is_whole.ensures ∙ ap (list_all (λ j. j)) c.as_slice-in-Some-2.ensures.value)
          c.in_ok-found-2.ensures.ok c.loop-left.invariant.found;
    }

pub returns-clause-ok : goal.returns-clause-ok
returns-clause-ok c =
    let product = c.args.product.now in
    found_whole product.pool.now.places product.filter.now (rows_of_each product.relations.now) c.args.links.now c.loop-left.joined.items c.loop-left.found.items
    c.loop-left.invariant.counted (sym (c.in_default.ensures ∙ ap (position not) c.as_slice.ensures.value)) c.requires c.loop-left.invariant.found
