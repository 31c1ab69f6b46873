use Rattle.std.proofs.Common.{ap, ◌∙◌, rules}
use Rattle.std.specs.Prelude.{option_copied}
use Rattle.msi_query.specs.Rows.{RelationCells, rows_values}
use Rattle.msi_query_rows.proofs.SelectedLemmas.{ordered_rows, selected_answer}
use Rattle.msi_query_rows.proofs.narrowing.selected.Goals as goal

pub returns-clause-ok : goal.returns-clause-ok
returns-clause-ok c =
    let places = c.args.pool.now.places in
    selected_answer places c.args.clauses.now c.args.relation c.new-ordered.result c.in_ok-kept.kept c.columns-names.result.now c.is_distinct.result c.distinct_if.result
    (record {
      name = ap (λ (r : RelationCells). r.name) c.new-ordered.ensures ∙ c.into_parts-name.ensures.name;
      columns = ap (λ (r : RelationCells). r.columns) c.new-ordered.ensures ∙ c.into_parts-name.ensures.columns;
      rows = ap (λ (r : RelationCells). rows_values places r.rows) c.new-ordered.ensures
          ∙ ordered_rows places c.args.clauses.now c.args.relation c.as_slice.result.now c.as_slice-2.result.now (option_copied c.condition.result) c.order.result.now
          _ _ _ (search rules) (search rules) c.condition.ensures c.order.ensures c.into_parts-name.ensures.rows c.in_ok-rows.ensures.ok c.in_ok-rows-2.ensures.ok;
    })
    c.columns-names.ensures c.is_distinct.ensures (c.in_ok-kept.ensures.ok places) c.distinct_if.ensures.ok
