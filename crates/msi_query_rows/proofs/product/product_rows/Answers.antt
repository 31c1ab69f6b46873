use Rattle.std.proofs.Common.{◌∙◌, ap}
use Rattle.std.specs.Prelude.{map, option_copied}
use Rattle.std.proofs.lemmas.Result.{IfOk-weaker}
use Rattle.msi_query_rows.specs.Combinations.{combined, rows_of_each}
use Rattle.msi_query_rows.proofs.LinkLemmas.{links_implied, product_is}
use Rattle.msi_query_rows.proofs.product.product_rows.Goals as goal

pub kept_combinations-requires : goal.kept_combinations-requires
kept_combinations-requires c =
    links_implied c.args.pool.now.places c.args.relations.now c.args.columns.now (option_copied c.args.condition) c.in_ok-filter.filter c.as_slice.result.now
    c.requires c.in_ok-filter.ensures.ok (c.as_slice.ensures.value ∙ c.in_ok-links.ensures.ok)

pub returns-clause-ok : goal.returns-clause-ok
returns-clause-ok c =
    IfOk-weaker c.combined_rows.result _ _
    (λ rows h. product_is c.args.pool.now.places c.args.relations.now c.args.columns.now (option_copied c.args.condition) c.in_ok-filter.filter c.in_ok-found.found.items rows.items
    c.in_ok-filter.ensures.ok c.in_ok-found.ensures.ok (h ∙ ap (map (combined (rows_of_each c.args.relations.now))) c.as_slice-2.ensures.value))
    c.combined_rows.ensures.ok
