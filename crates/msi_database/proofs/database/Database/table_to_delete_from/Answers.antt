use Rattle.std.proofs.Common.{◌∙◌, ◌∷◌, [], ap, not, subst, sym, List, ℕ, Some, None}
use Rattle.msi_base.specs.declared.errors.ErrorKind.TheVariants.{InvalidInput}
use Rattle.msi_table_values.specs.Columns.{ColumnDef}
use Rattle.msi_query.specs.Queries.{DeleteQuery}
use Rattle.msi_base.proofs.RefusalLemmas.{err_is, err_passed}
use Rattle.msi_base.specs.Refusals.{Refusals}
use Rattle.msi_query.specs.Selection.{condition_names, has_columns}
use Rattle.msi_database_schema.specs.System.{is_system_table}
use Rattle.msi_database_changes.specs.Delete.{delete_rows, early_delete_refusals}
use Rattle.msi_database.specs.Listed.{IsKnown}
use Rattle.msi_database.specs.Making.{delete_of}
use Rattle.msi_database.proofs.calls.EarlyCallLemmas.{absent_early, delete_refused_early, first_where_err, judged_early, none_where_ok}
use Rattle.msi_database.proofs.calls.RowCallLemmas.{passes_one}
use Rattle.msi_database.proofs.database.Database.table_to_delete_from.Goals as goal

abbrev judge : DeleteQuery → List ColumnDef → Refusals
judge q columns = (not (has_columns columns (condition_names q.condition)), InvalidInput) ∷ []

pub returns-in_err-table-clause-kind : goal.returns-in_err-table-clause-kind
returns-in_err-table-clause-kind c = let d = c.args.self.now.database in let q = delete_of c.args.delete.now in let k = c.in_err-table.field-0.0 in
    err_passed c.from_residual.result k (delete_rows d q) c.from_residual.ensures.1
    (delete_refused_early d q k (absent_early d (judge q) c.as_str-name.result.now q.table c.as_str-name.ensures c.is_system_table.result (is_system_table q.table) (c.is_system_table.ensures ∙ ap is_system_table c.as_str-name.ensures) k c.in_err-table.ensures.early))

pub returns-in_err-table-clause-early : goal.returns-in_err-table-clause-early
returns-in_err-table-clause-early c = let d = c.args.self.now.database in let q = delete_of c.args.delete.now in let k = c.in_err-table.field-0.0 in
    err_is c.from_residual.result k (early_delete_refusals d q) c.from_residual.ensures.1
    (absent_early d (judge q) c.as_str-name.result.now q.table c.as_str-name.ensures c.is_system_table.result (is_system_table q.table) (c.is_system_table.ensures ∙ ap is_system_table c.as_str-name.ensures) k c.in_err-table.ensures.early)

pub returns-in_err-refuse_delete-clause-kind : goal.returns-in_err-refuse_delete-clause-kind
returns-in_err-refuse_delete-clause-kind c = let d = c.args.self.now.database in let q = delete_of c.args.delete.now in let k = c.in_err-refuse_delete.field-0.0 in
    err_passed c.from_residual-in_err-refuse_delete.result k (delete_rows d q) c.from_residual-in_err-refuse_delete.ensures.1
    (delete_refused_early d q k (judged_early d (judge q) c.as_str-name.result.now q.table c.as_str-name.ensures c.is_system_table.result (is_system_table q.table) (c.is_system_table.ensures ∙ ap is_system_table c.as_str-name.ensures)
    c.in_ok-table.table.now c.in_ok-table.ensures.known c.in_ok-table.ensures.passed c.columns.result.now c.columns.ensures.columns (Some k) (first_where_err (judge q c.columns.result.now) tt k c.in_err-refuse_delete.ensures)))

pub returns-in_err-refuse_delete-clause-early : goal.returns-in_err-refuse_delete-clause-early
returns-in_err-refuse_delete-clause-early c = let d = c.args.self.now.database in let q = delete_of c.args.delete.now in let k = c.in_err-refuse_delete.field-0.0 in
    err_is c.from_residual-in_err-refuse_delete.result k (early_delete_refusals d q) c.from_residual-in_err-refuse_delete.ensures.1
    (judged_early d (judge q) c.as_str-name.result.now q.table c.as_str-name.ensures c.is_system_table.result (is_system_table q.table) (c.is_system_table.ensures ∙ ap is_system_table c.as_str-name.ensures)
    c.in_ok-table.table.now c.in_ok-table.ensures.known c.in_ok-table.ensures.passed c.columns.result.now c.columns.ensures.columns (Some k) (first_where_err (judge q c.columns.result.now) tt k c.in_err-refuse_delete.ensures))

pub returns-clause-free : goal.returns-clause-free
returns-clause-free c = sym (c.is_system_table.ensures ∙ ap is_system_table c.as_str-name.ensures) ∙ c.in_ok-table.ensures.free

pub returns-clause-known : goal.returns-clause-known
returns-clause-known c = subst (λ (n : List ℕ). IsKnown c.args.self.now.database n c.in_ok-table.table.now) c.as_str-name.ensures c.in_ok-table.ensures.known

pub returns-clause-fits : goal.returns-clause-fits
returns-clause-fits c = let names = condition_names c.args.delete.now.condition in
    ap (λ (cs : List ColumnDef). has_columns cs names) (sym c.columns.ensures.columns) ∙ passes_one (has_columns c.columns.result.now names) InvalidInput c.in_ok-refuse_delete.field-0 c.in_ok-refuse_delete.ensures

pub returns-clause-passed : goal.returns-clause-passed
returns-clause-passed c = let d = c.args.self.now.database in let q = delete_of c.args.delete.now in
    judged_early d (judge q) c.as_str-name.result.now q.table c.as_str-name.ensures c.is_system_table.result (is_system_table q.table) (c.is_system_table.ensures ∙ ap is_system_table c.as_str-name.ensures)
    c.in_ok-table.table.now c.in_ok-table.ensures.known c.in_ok-table.ensures.passed c.columns.result.now c.columns.ensures.columns None (none_where_ok (judge q c.columns.result.now) tt c.in_ok-refuse_delete.field-0 c.in_ok-refuse_delete.ensures)
