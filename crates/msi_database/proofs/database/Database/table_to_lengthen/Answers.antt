use Rattle.msi_base.proofs.RefusalLemmas.{err_is}
use Rattle.msi_database_changes.specs.AddColumn.{early_column_refusals}
use Rattle.msi_database.proofs.widths.LengthenedCallLemmas.{column_dropped_early, column_judged, column_passes, column_unvalidated}
use Rattle.msi_database.proofs.database.Database.table_to_lengthen.Goals as goal

pub returns-in_err-table-clause-early : goal.returns-in_err-table-clause-early
returns-in_err-table-clause-early c = let d = c.args.self.now.database in let k = c.in_err-table.field-0.0 in
    err_is c.from_residual.result k (early_column_refusals d c.args.name.now c.args.column.now) c.from_residual.ensures.1 (column_dropped_early d c.args.name.now c.args.column.now k c.in_err-table.ensures.early)

pub returns-in_err-refuse_new_column-clause-early : goal.returns-in_err-refuse_new_column-clause-early
returns-in_err-refuse_new_column-clause-early c = let d = c.args.self.now.database in let k = c.in_err-refuse_new_column.field-0.0 in
    err_is c.from_residual-in_err-refuse_new_column.result k (early_column_refusals d c.args.name.now c.args.column.now) c.from_residual-in_err-refuse_new_column.ensures.1
    (column_judged d c.args.name.now c.in_ok-table.table.now c.in_ok-table.ensures.known c.in_ok-table.ensures.passed c.args.column.now c.columns.result.now c.columns.ensures.columns k c.in_err-refuse_new_column.ensures.value)
