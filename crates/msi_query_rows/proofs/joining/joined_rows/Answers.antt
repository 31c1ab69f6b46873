use Rattle.std.proofs.Common.{length, ◌∙◌, rules}
use Rattle.std.proofs.lemmas.Result.{IfOk-weaker}
use Rattle.msi_query_rows.proofs.IndexLemmas.{filter_passes}
use Rattle.msi_query_rows.proofs.JoinLemmas.{join_same}
use Rattle.msi_query_rows.proofs.RefusedLemmas.{memory_passed, no_value}
use Rattle.msi_query_rows.proofs.joining.joined_rows.Goals as goal

pub rows_by_index-requires : goal.rows_by_index-requires
rows_by_index-requires c =
    filter_passes c.args.pool.now.places c.in_ok-filter.filter c.args.columns.now c.args.on.now c.args.left.now.rows _ _ c.in-Some.at
    c.in_ok-filter.ensures.ok c.rows.ensures c.rows-in-Some.ensures (c.in-Some.ensures.equal c.args.pool.now.places)

pub returns-in-Some-clause-ok : goal.returns-in-Some-clause-ok
returns-in-Some-clause-ok c =
    IfOk-weaker c.rows_by_index.result _ _
    (λ rows h. h ∙ join_same c.args.kind c.args.pool.now.places c.in_ok-filter.filter c.args.columns.now c.args.on.now (length c.as_slice.result.now) (length c.args.right.columns)
    c.rows-in-Some.result.now c.args.left.now.rows c.into_parts-name.result.2.items c.args.right.rows
    c.in_ok-filter.ensures.ok (search rules) c.rows-in-Some.ensures (search rules))
    c.rows_by_index.ensures.ok

pub returns-clause-ok : goal.returns-clause-ok
returns-clause-ok c =
    IfOk-weaker c.rows_by_scan.result _ _
    (λ rows h. h ∙ join_same c.args.kind c.args.pool.now.places c.in_ok-filter.filter c.args.columns.now c.args.on.now (length c.as_slice.result.now) (length c.args.right.columns)
    c.rows-in-None.result.now c.args.left.now.rows c.as_slice-in-None.result.now c.args.right.rows
    c.in_ok-filter.ensures.ok (search rules) c.rows-in-None.ensures (search rules))
    c.rows_by_scan.ensures.ok

pub returns-in_err-filter-clause-ok : goal.returns-in_err-filter-clause-ok
returns-in_err-filter-clause-ok c = no_value _ c.from_residual.result c.in_err-filter.field-0.0 c.from_residual.ensures.1

pub returns-in_err-filter-clause-kind : goal.returns-in_err-filter-clause-kind
returns-in_err-filter-clause-kind c = memory_passed c.from_residual.result c.in_err-filter.field-0.0 c.from_residual.ensures.1 c.in_err-filter.ensures.kind

pub returns-in-Some-clause-kind : goal.returns-in-Some-clause-kind
returns-in-Some-clause-kind c = c.rows_by_index.ensures.kind

pub returns-clause-kind : goal.returns-clause-kind
returns-clause-kind c = c.rows_by_scan.ensures.kind
