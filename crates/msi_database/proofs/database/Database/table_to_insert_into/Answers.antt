use Rattle.std.proofs.Common.{◌∙◌, ap, ap₂, subst, sym, List, ℕ, Some, None}
use Rattle.msi_table_values.specs.declared.value.Value.{Value}
use Rattle.msi_table_values.specs.Columns.{ColumnDef}
use Rattle.msi_query.specs.Queries.{InsertQuery}
use Rattle.msi_base.proofs.RefusalLemmas.{err_is, err_passed}
use Rattle.msi_base.specs.Refusals.{Refusals, first_refusal}
use Rattle.msi_database_schema.specs.System.{is_system_table}
use Rattle.msi_database_changes.specs.Insert.{early_insert_refusals, insert_rows, new_row_refusals}
use Rattle.msi_database.specs.Listed.{IsKnown}
use Rattle.msi_database.specs.Making.{insert_of}
use Rattle.msi_database.proofs.calls.EarlyCallLemmas.{absent_early, insert_refused_early, first_where_err, judged_early, none_where_ok}
use Rattle.msi_database.proofs.database.Database.table_to_insert_into.Goals as goal

abbrev judge : InsertQuery → List ColumnDef → Refusals
judge q columns = new_row_refusals columns q.columns q.rows

pub returns-in_err-table-clause-kind : goal.returns-in_err-table-clause-kind
returns-in_err-table-clause-kind c = let d = c.args.self.now.database in let q = insert_of c.args.insert.now in let k = c.in_err-table.field-0.0 in
    err_passed c.from_residual.result k (insert_rows d q) c.from_residual.ensures.1
    (insert_refused_early d q k (absent_early d (judge q) c.as_str-name.result.now q.table c.as_str-name.ensures c.is_system_table.result (is_system_table q.table) (c.is_system_table.ensures ∙ ap is_system_table c.as_str-name.ensures) k c.in_err-table.ensures.early))

pub returns-in_err-table-clause-early : goal.returns-in_err-table-clause-early
returns-in_err-table-clause-early c = let d = c.args.self.now.database in let q = insert_of c.args.insert.now in let k = c.in_err-table.field-0.0 in
    err_is c.from_residual.result k (early_insert_refusals d q) c.from_residual.ensures.1
    (absent_early d (judge q) c.as_str-name.result.now q.table c.as_str-name.ensures c.is_system_table.result (is_system_table q.table) (c.is_system_table.ensures ∙ ap is_system_table c.as_str-name.ensures) k c.in_err-table.ensures.early)

pub returns-in_err-refuse_new_rows-clause-kind : goal.returns-in_err-refuse_new_rows-clause-kind
returns-in_err-refuse_new_rows-clause-kind c = let d = c.args.self.now.database in let q = insert_of c.args.insert.now in let k = c.in_err-refuse_new_rows.field-0.0 in
    err_passed c.from_residual-in_err-refuse_new_rows.result k (insert_rows d q) c.from_residual-in_err-refuse_new_rows.ensures.1
    (insert_refused_early d q k (judged_early d (judge q) c.as_str-name.result.now q.table c.as_str-name.ensures c.is_system_table.result (is_system_table q.table) (c.is_system_table.ensures ∙ ap is_system_table c.as_str-name.ensures)
    c.in_ok-table.table.now c.in_ok-table.ensures.known c.in_ok-table.ensures.passed c.columns.result.now c.columns.ensures.columns (Some k) (ap₂ (λ (names : List (List ℕ)) (rows : List (List Value)). first_refusal (new_row_refusals c.columns.result.now names rows)) (sym c.as_slice-names.ensures) (sym c.as_slice.ensures) ∙ first_where_err (new_row_refusals c.columns.result.now c.as_slice-names.result.now c.as_slice.result.now) tt k c.in_err-refuse_new_rows.ensures)))

pub returns-in_err-refuse_new_rows-clause-early : goal.returns-in_err-refuse_new_rows-clause-early
returns-in_err-refuse_new_rows-clause-early c = let d = c.args.self.now.database in let q = insert_of c.args.insert.now in let k = c.in_err-refuse_new_rows.field-0.0 in
    err_is c.from_residual-in_err-refuse_new_rows.result k (early_insert_refusals d q) c.from_residual-in_err-refuse_new_rows.ensures.1
    (judged_early d (judge q) c.as_str-name.result.now q.table c.as_str-name.ensures c.is_system_table.result (is_system_table q.table) (c.is_system_table.ensures ∙ ap is_system_table c.as_str-name.ensures)
    c.in_ok-table.table.now c.in_ok-table.ensures.known c.in_ok-table.ensures.passed c.columns.result.now c.columns.ensures.columns (Some k) (ap₂ (λ (names : List (List ℕ)) (rows : List (List Value)). first_refusal (new_row_refusals c.columns.result.now names rows)) (sym c.as_slice-names.ensures) (sym c.as_slice.ensures) ∙ first_where_err (new_row_refusals c.columns.result.now c.as_slice-names.result.now c.as_slice.result.now) tt k c.in_err-refuse_new_rows.ensures))

pub returns-clause-free : goal.returns-clause-free
returns-clause-free c = sym (c.is_system_table.ensures ∙ ap is_system_table c.as_str-name.ensures) ∙ c.in_ok-table.ensures.free

pub returns-clause-known : goal.returns-clause-known
returns-clause-known c = subst (λ (n : List ℕ). IsKnown c.args.self.now.database n c.in_ok-table.table.now) c.as_str-name.ensures c.in_ok-table.ensures.known

pub returns-clause-passed : goal.returns-clause-passed
returns-clause-passed c = let d = c.args.self.now.database in let q = insert_of c.args.insert.now in
    judged_early d (judge q) c.as_str-name.result.now q.table c.as_str-name.ensures c.is_system_table.result (is_system_table q.table) (c.is_system_table.ensures ∙ ap is_system_table c.as_str-name.ensures)
    c.in_ok-table.table.now c.in_ok-table.ensures.known c.in_ok-table.ensures.passed c.columns.result.now c.columns.ensures.columns None (ap₂ (λ (names : List (List ℕ)) (rows : List (List Value)). first_refusal (new_row_refusals c.columns.result.now names rows)) (sym c.as_slice-names.ensures) (sym c.as_slice.ensures) ∙ none_where_ok (new_row_refusals c.columns.result.now c.as_slice-names.result.now c.as_slice.result.now) tt c.in_ok-refuse_new_rows.field-0 c.in_ok-refuse_new_rows.ensures)
