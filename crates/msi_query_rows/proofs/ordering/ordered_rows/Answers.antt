use Rattle.std.proofs.Common.{◌∙◌, sym}
use Rattle.msi_query.specs.Rows.{rows_values}
use Rattle.msi_query_rows.proofs.OrderLemmas.{rows_ordered, unordered}
use Rattle.msi_query_rows.proofs.ordering.ordered_rows.Goals as goal

pub returns-then-is_empty-clause-ok : goal.returns-then-is_empty-clause-ok
returns-then-is_empty-clause-ok c =
    unordered c.args.columns.now c.args.names.now (rows_values c.args.pool.now.places c.args.rows.items) (sym c.is_empty.ensures ∙ c.if-is_empty.true)

pub returns-clause-ok : goal.returns-clause-ok
returns-clause-ok c =
    rows_ordered c.args.pool.now.places c.args.columns.now c.args.names.now c.as_slice.result.now c.args.rows.items c.sort_by_places.new.rows.items
    (c.as_slice.ensures.value ∙ c.in_ok-places.ensures.ok) c.in_ok-sort_by_places.ensures.ok
