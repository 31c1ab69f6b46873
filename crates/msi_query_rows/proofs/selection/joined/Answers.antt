use Rattle.std.proofs.Common.{◌≡◌, List, Some, length, ap, ◌∙◌, rules}
use Rattle.std.specs.List.{flat_map}
use Rattle.msi_table_values.specs.Columns.{ColumnDef}
use Rattle.msi_query_expressions.specs.Conditions.{meets}
use Rattle.msi_query.specs.Rows.{RelationCells, relation_values, rows_values}
use Rattle.msi_query.specs.Selection.{joined_columns, rows_of_row}
use Rattle.msi_query_rows.proofs.JoinLemmas.{join_refused, clauses_refused, join_narrowed}
use Rattle.msi_base.proofs.RefusalLemmas.{err_passed}
use Rattle.msi_query_rows.proofs.selection.joined.Goals as goal

pub returns-then-not-knows_names-clause-kind : goal.returns-then-not-knows_names-clause-kind
returns-then-not-knows_names-clause-kind c =
    let places = c.args.pool.now.places in
    join_refused c.args.kind c.args.on.now c.args.clauses.now (relation_values places c.args.left) (relation_values places c.args.right)
    c.as_slice.result.now c.knows_names.result c.new.result (search (rules, c.in_ok-columns.ensures.ok places)) c.knows_names.ensures c.if-not-knows_names.true c.new.ensures

pub returns-in_err-refuse_unknown-clause-kind : goal.returns-in_err-refuse_unknown-clause-kind
returns-in_err-refuse_unknown-clause-kind c =
    let places = c.args.pool.now.places in
    err_passed c.from_residual-in_err-refuse_unknown.result c.in_err-refuse_unknown.field-0.0 _ c.from_residual-in_err-refuse_unknown.ensures.1
    (clauses_refused c.args.kind c.args.on.now c.args.clauses.now (relation_values places c.args.left) (relation_values places c.args.right)
    c.as_slice.result.now c.as_slice-2.result.now c.knows_names.result c.refuse_unknown.result _ (search (rules, c.in_ok-columns.ensures.ok places)) c.knows_names.ensures c.if-not-knows_names.false
    (search (rules, c.in_ok-columns.ensures.ok places)) c.refuse_unknown.ensures c.in_err-refuse_unknown.was)

pub returns-clause-ok : goal.returns-clause-ok
returns-clause-ok c =
    let places = c.args.pool.now.places in
    let columns : c.as_slice-3.result.now ≡ joined_columns c.args.kind (relation_values places c.args.left) (relation_values places c.args.right) = search (rules, c.in_ok-columns.ensures.ok places) in
    join_narrowed c.args.kind c.args.on.now c.args.clauses.now places c.args.left c.args.right c.new-whole.result
    c.as_slice.result.now c.as_slice-2.result.now c.knows_names.result c.refuse_unknown.result c.selected.result (search (rules, c.in_ok-columns.ensures.ok places)) c.knows_names.ensures c.if-not-knows_names.false
    (search (rules, c.in_ok-columns.ensures.ok places)) c.refuse_unknown.ensures c.in_ok-refuse_unknown.was
    (ap (λ (w : RelationCells). w.name) c.new-whole.ensures ∙ c.from_string-name.ensures ∙ c.new-2.ensures.bytes)
    (ap (λ (w : RelationCells). w.columns) c.new-whole.ensures ∙ c.in_ok-columns.ensures.ok places)
    (ap (λ (w : RelationCells). rows_values places w.rows) c.new-whole.ensures ∙ c.in_ok-rows.ensures.ok
    ∙ ap (λ (cs : List ColumnDef). flat_map (rows_of_row c.args.kind (meets cs (Some c.args.on.now)) (length c.args.right.columns) (rows_values places c.args.right.rows)) (rows_values places c.args.left.rows)) columns)
    c.selected.ensures.ok
