use Rattle.std.proofs.Common.{◌≡◌, List, filter, map, ap, ◌∙◌, rules}
use Rattle.std.specs.Prelude.{option_copied}
use Rattle.msi_table_values.specs.Columns.{ColumnDef}
use Rattle.msi_query_expressions.specs.Conditions.{meets}
use Rattle.msi_query.specs.Product.{product}
use Rattle.msi_query.specs.Rows.{RelationCells, relation_values, rows_values}
use Rattle.msi_query.specs.Selection.{product_columns}
use Rattle.msi_base.proofs.RefusalLemmas.{err_passed}
use Rattle.msi_query_rows.proofs.RefusedLemmas.{memory_refuses}
use Rattle.msi_query_rows.proofs.SidesLemmas.{product_clauses_refused, product_kept}
use Rattle.msi_query_rows.proofs.sides.kept_of_product.Goals as goal

pub returns-in_err-refuse_unknown-clause-kind : goal.returns-in_err-refuse_unknown-clause-kind
returns-in_err-refuse_unknown-clause-kind c =
    let places = c.args.pool.now.places in
    err_passed c.from_residual-in_err-refuse_unknown.result c.in_err-refuse_unknown.field-0.0 _ c.from_residual-in_err-refuse_unknown.ensures.1
    (product_clauses_refused places c.args.clauses.now c.in_ok-clauses.clauses c.args.relations.now c.as_slice.result.now c.as_slice-2.result.now c.refuse_unknown.result _
    (search (rules, c.in_ok-columns.ensures.ok places)) c.in_ok-clauses.ensures.ok (search (rules, c.in_ok-columns.ensures.ok places)) c.refuse_unknown.ensures c.in_err-refuse_unknown.was)

pub returns-clause-ok : goal.returns-clause-ok
returns-clause-ok c =
    let places = c.args.pool.now.places in
    let relations = c.args.relations.now in
    let parts = c.split_condition-condition in
    let columns : c.as_slice-3.result.now ≡ product_columns (map (relation_values places) relations) = search (rules, c.in_ok-columns.ensures.ok places) in
    product_kept places c.args.clauses.now c.in_ok-clauses.clauses parts.result.1 (option_copied c.as_ref.result) relations c.as_slice.result.now c.as_slice-2.result.now c.new-met.result
    c.refuse_unknown.result c.selected.result
    (search (rules, c.in_ok-columns.ensures.ok places)) c.in_ok-clauses.ensures.ok (search (rules, c.as_ref.ensures.value, parts.ensures.condition)) parts.ensures.others
    (search (rules, c.in_ok-columns.ensures.ok places)) c.refuse_unknown.ensures c.in_ok-refuse_unknown.was
    (record {
      name = ap (λ (r : RelationCells). r.name) c.new-met.ensures ∙ c.from_string-name.ensures ∙ c.new.ensures.bytes;
      columns_are = ap (λ (r : RelationCells). r.columns) c.new-met.ensures ∙ c.in_ok-columns.ensures.ok places;
      rows_are = ap (λ (r : RelationCells). rows_values places r.rows) c.new-met.ensures ∙ c.in_ok-rows.ensures.ok
          ∙ ap (λ (cs : List ColumnDef). filter (meets cs (option_copied c.as_ref.result)) (product (map (λ (r : RelationCells). rows_values places r.rows) relations))) columns;
    })
    c.selected.ensures.ok

pub returns-clause-kind : goal.returns-clause-kind
returns-clause-kind c = memory_refuses c.selected.result _ c.selected.ensures.kind
