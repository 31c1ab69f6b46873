use Rattle.std.proofs.Common.{◌∙◌, ap, subst, sym, List, ℕ, Some, None}
use Rattle.msi_table_values.specs.Columns.{ColumnDef}
use Rattle.msi_query.specs.Queries.{UpdateQuery}
use Rattle.msi_base.proofs.RefusalLemmas.{err_is, err_passed}
use Rattle.msi_base.specs.Refusals.{Refusals, first_refusal}
use Rattle.msi_database_changes.specs.Update.{early_update_refusals, is_update_barred, set_refusals, update_rows}
use Rattle.msi_database_changes.specs.RowUpdates.{update_of}
use Rattle.msi_database.specs.Listed.{IsKnown}
use Rattle.msi_database.proofs.calls.EarlyCallLemmas.{absent_early, update_refused_early, first_where_err, judged_early, none_where_ok}
use Rattle.msi_database.proofs.database.Database.table_to_update.Goals as goal

abbrev judge : UpdateQuery → List ColumnDef → Refusals
judge q columns = set_refusals columns q

pub returns-in_err-table-clause-kind : goal.returns-in_err-table-clause-kind
returns-in_err-table-clause-kind c = let d = c.args.self.now.database in let q = update_of c.args.update.now in let k = c.in_err-table.field-0.0 in
    err_passed c.from_residual.result k (update_rows d q) c.from_residual.ensures.1
    (update_refused_early d q k (absent_early d (judge q) c.as_str-name.result.now q.table c.as_str-name.ensures c.is_barred.result (is_update_barred q) c.is_barred.ensures k c.in_err-table.ensures.early))

pub returns-in_err-table-clause-early : goal.returns-in_err-table-clause-early
returns-in_err-table-clause-early c = let d = c.args.self.now.database in let q = update_of c.args.update.now in let k = c.in_err-table.field-0.0 in
    err_is c.from_residual.result k (early_update_refusals d q) c.from_residual.ensures.1
    (absent_early d (judge q) c.as_str-name.result.now q.table c.as_str-name.ensures c.is_barred.result (is_update_barred q) c.is_barred.ensures k c.in_err-table.ensures.early)

pub returns-in_err-refuse_sets-clause-kind : goal.returns-in_err-refuse_sets-clause-kind
returns-in_err-refuse_sets-clause-kind c = let d = c.args.self.now.database in let q = update_of c.args.update.now in let k = c.in_err-refuse_sets.field-0.0 in
    err_passed c.from_residual-in_err-refuse_sets.result k (update_rows d q) c.from_residual-in_err-refuse_sets.ensures.1
    (update_refused_early d q k (judged_early d (judge q) c.as_str-name.result.now q.table c.as_str-name.ensures c.is_barred.result (is_update_barred q) c.is_barred.ensures
    c.in_ok-table.table.now c.in_ok-table.ensures.known c.in_ok-table.ensures.passed c.columns.result.now c.columns.ensures.columns (Some k) (first_where_err (judge q c.columns.result.now) tt k c.in_err-refuse_sets.ensures)))

pub returns-in_err-refuse_sets-clause-early : goal.returns-in_err-refuse_sets-clause-early
returns-in_err-refuse_sets-clause-early c = let d = c.args.self.now.database in let q = update_of c.args.update.now in let k = c.in_err-refuse_sets.field-0.0 in
    err_is c.from_residual-in_err-refuse_sets.result k (early_update_refusals d q) c.from_residual-in_err-refuse_sets.ensures.1
    (judged_early d (judge q) c.as_str-name.result.now q.table c.as_str-name.ensures c.is_barred.result (is_update_barred q) c.is_barred.ensures
    c.in_ok-table.table.now c.in_ok-table.ensures.known c.in_ok-table.ensures.passed c.columns.result.now c.columns.ensures.columns (Some k) (first_where_err (judge q c.columns.result.now) tt k c.in_err-refuse_sets.ensures))

pub returns-clause-free : goal.returns-clause-free
returns-clause-free c = sym c.is_barred.ensures ∙ c.in_ok-table.ensures.free

pub returns-clause-known : goal.returns-clause-known
returns-clause-known c = subst (λ (n : List ℕ). IsKnown c.args.self.now.database n c.in_ok-table.table.now) c.as_str-name.ensures c.in_ok-table.ensures.known

pub returns-clause-fits : goal.returns-clause-fits
returns-clause-fits c = let q = update_of c.args.update.now in
    ap (λ (cs : List ColumnDef). first_refusal (set_refusals cs q)) (sym c.columns.ensures.columns) ∙ none_where_ok (judge q c.columns.result.now) tt c.in_ok-refuse_sets.field-0 c.in_ok-refuse_sets.ensures

pub returns-clause-passed : goal.returns-clause-passed
returns-clause-passed c = let d = c.args.self.now.database in let q = update_of c.args.update.now in
    judged_early d (judge q) c.as_str-name.result.now q.table c.as_str-name.ensures c.is_barred.result (is_update_barred q) c.is_barred.ensures
    c.in_ok-table.table.now c.in_ok-table.ensures.known c.in_ok-table.ensures.passed c.columns.result.now c.columns.ensures.columns None (none_where_ok (judge q c.columns.result.now) tt c.in_ok-refuse_sets.field-0 c.in_ok-refuse_sets.ensures)
