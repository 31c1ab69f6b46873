use Rattle.std.proofs.Common.{rules, ◌∙◌}
use Rattle.msi_query_expressions.specs.Conditions.{meets}
use Rattle.msi_query.specs.Rows.{rows_values}
use Rattle.msi_query_rows.proofs.IndexLemmas.{row_joined}
use Rattle.msi_query_rows.proofs.RefusedLemmas.{memory_passed, no_value}
use Rattle.msi_query_rows.proofs.joining.rows_by_index.Goals as goal

pub loop-row-preserved : goal.loop-row-preserved
loop-row-preserved c =
    let places = c.args.pool.now.places in
    let join = c.args.join.now in
    record {
      rows = λ right e. row_joined places (meets join.filter.now.columns join.filter.now.condition) join.kind join.width
          (rows_values places c.loop-row.rows.items) (rows_values places c.add_row.new.rows.items) c.args.left.now right c.rows_with-found.result.now c.args.at
          c.loop-row.row-index c.as_slice-row.result.now c.cell_of.result c.requires c.loop-row-test.true (search rules) c.cell_of.ensures
          (c.rows_with-found.ensures right (c.as_slice.ensures.value ∙ e)) c.in_ok-add_row.ensures.ok (c.loop-row.invariant.rows right e);
    }

pub returns-in_err-sort_by_place-clause-ok : goal.returns-in_err-sort_by_place-clause-ok
returns-in_err-sort_by_place-clause-ok c = no_value _ c.from_residual.result c.in_err-sort_by_place.field-0.0 c.from_residual.ensures.1

pub returns-in_err-sort_by_place-clause-kind : goal.returns-in_err-sort_by_place-clause-kind
returns-in_err-sort_by_place-clause-kind c = memory_passed c.from_residual.result c.in_err-sort_by_place.field-0.0 c.from_residual.ensures.1 c.in_err-sort_by_place.ensures.kind

pub returns-in_err-add_row-clause-ok : goal.returns-in_err-add_row-clause-ok
returns-in_err-add_row-clause-ok c = no_value _ c.from_residual-in_err-add_row.result c.in_err-add_row.field-0.0 c.from_residual-in_err-add_row.ensures.1

pub returns-in_err-add_row-clause-kind : goal.returns-in_err-add_row-clause-kind
returns-in_err-add_row-clause-kind c = memory_passed c.from_residual-in_err-add_row.result c.in_err-add_row.field-0.0 c.from_residual-in_err-add_row.ensures.1 c.in_err-add_row.ensures.kind
