use Rattle.std.proofs.Common.{◌∙◌}
use Rattle.msi_query.specs.Rows.{relation_values}
use Rattle.msi_query_rows.proofs.SelectedLemmas.{not_distinct, rows_distinct}
use Rattle.msi_query_rows.proofs.narrowing.distinct_if.Goals as goal

pub returns-then-not-is_distinct-clause-ok : goal.returns-then-not-is_distinct-clause-ok
returns-then-not-is_distinct-clause-ok c =
    not_distinct c.args.is_distinct (relation_values c.args.pool.now.places c.args.relation) c.if-not-is_distinct.true

pub returns-clause-ok : goal.returns-clause-ok
returns-clause-ok c =
    rows_distinct c.args.pool.now.places c.args.is_distinct c.args.relation c.new.result _ _ c.as_slice.result.now c.in_ok-rows.rows.items c.if-not-is_distinct.false
    c.into_parts-name.ensures.name c.into_parts-name.ensures.columns (c.as_slice.ensures.value ∙ c.into_parts-name.ensures.rows) c.in_ok-rows.ensures.ok c.new.ensures
