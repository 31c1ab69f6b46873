use Rattle.std.proofs.Common.{List, [], ◌∷◌, ◌++◌, ◌<◌, length, ap, subst, sym, refl, ◌∙◌}
use Rattle.std.proofs.lemmas.Result.{IfOk-weaker}
use Rattle.msi_base.proofs.RefusalLemmas.{err_passed, first_answered, none_answered}
use Rattle.msi_table_values.specs.Columns.{ColumnDef}
use Rattle.msi_database_changes.specs.AddColumn.{early_column_refusals}
use Rattle.msi_database_storage.specs.Kept.{Kept}
use Rattle.msi_database.specs.AddingColumn.{IsLengthened}
use Rattle.msi_database.specs.Keeping.{IsKeptDatabase}
use Rattle.msi_database.proofs.widths.LengthenedCallLemmas.{column_barred_either, column_called, column_made_with, column_named_with, column_rows_refused, column_told_with, few_columns, known_there}
use Rattle.msi_database_storage.proofs.PassedLemmas.{memory_refused, memory_refuses, no_value}
use Rattle.msi_database.proofs.database.Database.column_added.Goals as goal

pub lengthened_over-requires-clause-held : goal.lengthened_over-requires-clause-held
lengthened_over-requires-clause-held c = let there = known_there c.args.self.now.database c.args.name.now c.in_ok-table.table.now c.in_ok-table.ensures.known in
    (column_called c.args.self.now (subst IsKeptDatabase c.self.view_is c.self.invariant.kept) c.in_ok-table.ensures.sound c.self.inside.pool (ap (λ (k : Kept). k.database.pool) c.self.view_is)
    c.in_ok-clone.field-0 (c.in_ok-clone.ensures.ok) c.new-pool.result c.new-pool.ensures c.args.name.now c.in_ok-table.table.now.name c.in_ok-table.ensures.known.named c.args.column c.args.column refl
    there.0 there.1 c.in_ok-table.ensures.passed c.in_ok-columns.columns (c.in_ok-columns.ensures.ok ∙ ap (λ (cs : List ColumnDef). cs ++ c.args.column ∷ []) (c.columns.ensures.columns ∙ sym there.2))
    c.in_ok-rows.rows c.rows_lengthened.new.pool c.in_ok-rows.ensures.page c.in_ok-rows.ensures.long c.in_ok-rows.ensures.ok).held

pub lengthened_over-requires-clause-few : goal.lengthened_over-requires-clause-few
lengthened_over-requires-clause-few c = few_columns c.in_ok-columns.columns c.columns.result.now c.args.column c.in_ok-columns.ensures.ok (subst (λ (cs : List ColumnDef). length cs < 32) (sym c.columns.ensures.columns) c.in_ok-table.ensures.few)

pub returns-clause-ok : goal.returns-clause-ok
returns-clause-ok c = let there = known_there c.args.self.now.database c.args.name.now c.in_ok-table.table.now c.in_ok-table.ensures.known in
    IfOk-weaker c.lengthened_over.result (λ made. IsLengthened c.args.self.now c.args.name.now c.in_ok-columns.columns c.in_ok-rows.rows c.rows_lengthened.new.pool made.new.wide made.new.stored.items made.new.tables made.new.pool made.is_pool_used) _
    (λ made is. column_made_with c.args.self.now c.args.name.now c.args.column c.in_ok-columns.columns c.in_ok-rows.rows c.rows_lengthened.new.pool
    (column_called c.args.self.now (subst IsKeptDatabase c.self.view_is c.self.invariant.kept) c.in_ok-table.ensures.sound c.self.inside.pool (ap (λ (k : Kept). k.database.pool) c.self.view_is)
    c.in_ok-clone.field-0 (c.in_ok-clone.ensures.ok) c.new-pool.result c.new-pool.ensures c.args.name.now c.in_ok-table.table.now.name c.in_ok-table.ensures.known.named c.args.column c.args.column refl
    there.0 there.1 c.in_ok-table.ensures.passed c.in_ok-columns.columns (c.in_ok-columns.ensures.ok ∙ ap (λ (cs : List ColumnDef). cs ++ c.args.column ∷ []) (c.columns.ensures.columns ∙ sym there.2))
    c.in_ok-rows.rows c.rows_lengthened.new.pool c.in_ok-rows.ensures.page c.in_ok-rows.ensures.long c.in_ok-rows.ensures.ok)
    made.new.wide made.new.stored.items made.new.tables made.new.pool made.is_pool_used is) c.lengthened_over.ensures.ok

pub returns-clause-used : goal.returns-clause-used
returns-clause-used c = let there = known_there c.args.self.now.database c.args.name.now c.in_ok-table.table.now c.in_ok-table.ensures.known in
    IfOk-weaker c.lengthened_over.result (λ made. IsLengthened c.args.self.now c.args.name.now c.in_ok-columns.columns c.in_ok-rows.rows c.rows_lengthened.new.pool made.new.wide made.new.stored.items made.new.tables made.new.pool made.is_pool_used) _
    (λ made is. column_told_with c.args.self.now c.args.name.now c.args.column c.in_ok-columns.columns c.in_ok-rows.rows c.rows_lengthened.new.pool
    (column_called c.args.self.now (subst IsKeptDatabase c.self.view_is c.self.invariant.kept) c.in_ok-table.ensures.sound c.self.inside.pool (ap (λ (k : Kept). k.database.pool) c.self.view_is)
    c.in_ok-clone.field-0 (c.in_ok-clone.ensures.ok) c.new-pool.result c.new-pool.ensures c.args.name.now c.in_ok-table.table.now.name c.in_ok-table.ensures.known.named c.args.column c.args.column refl
    there.0 there.1 c.in_ok-table.ensures.passed c.in_ok-columns.columns (c.in_ok-columns.ensures.ok ∙ ap (λ (cs : List ColumnDef). cs ++ c.args.column ∷ []) (c.columns.ensures.columns ∙ sym there.2))
    c.in_ok-rows.rows c.rows_lengthened.new.pool c.in_ok-rows.ensures.page c.in_ok-rows.ensures.long c.in_ok-rows.ensures.ok)
    made.new.wide made.new.stored.items made.new.tables made.new.pool made.is_pool_used is) c.lengthened_over.ensures.ok

pub returns-clause-names : goal.returns-clause-names
returns-clause-names c = let there = known_there c.args.self.now.database c.args.name.now c.in_ok-table.table.now c.in_ok-table.ensures.known in
    IfOk-weaker c.lengthened_over.result (λ made. IsLengthened c.args.self.now c.args.name.now c.in_ok-columns.columns c.in_ok-rows.rows c.rows_lengthened.new.pool made.new.wide made.new.stored.items made.new.tables made.new.pool made.is_pool_used) _
    (λ made is. column_named_with c.args.self.now c.args.name.now c.args.column c.in_ok-columns.columns c.in_ok-rows.rows c.rows_lengthened.new.pool
    (column_called c.args.self.now (subst IsKeptDatabase c.self.view_is c.self.invariant.kept) c.in_ok-table.ensures.sound c.self.inside.pool (ap (λ (k : Kept). k.database.pool) c.self.view_is)
    c.in_ok-clone.field-0 (c.in_ok-clone.ensures.ok) c.new-pool.result c.new-pool.ensures c.args.name.now c.in_ok-table.table.now.name c.in_ok-table.ensures.known.named c.args.column c.args.column refl
    there.0 there.1 c.in_ok-table.ensures.passed c.in_ok-columns.columns (c.in_ok-columns.ensures.ok ∙ ap (λ (cs : List ColumnDef). cs ++ c.args.column ∷ []) (c.columns.ensures.columns ∙ sym there.2))
    c.in_ok-rows.rows c.rows_lengthened.new.pool c.in_ok-rows.ensures.page c.in_ok-rows.ensures.long c.in_ok-rows.ensures.ok)
    made.new.wide made.new.stored.items made.new.tables made.new.pool made.is_pool_used is) c.lengthened_over.ensures.ok

pub returns-clause-kind : goal.returns-clause-kind
returns-clause-kind c = memory_refuses c.lengthened_over.result _ c.lengthened_over.ensures.kind

pub returns-clause-early : goal.returns-clause-early
returns-clause-early c = none_answered (early_column_refusals c.args.self.now.database c.args.name.now c.args.column) _ c.in_ok-table.ensures.passed

pub returns-in_err-table-clause-ok : goal.returns-in_err-table-clause-ok
returns-in_err-table-clause-ok c = no_value _ c.from_residual.result c.in_err-table.field-0.0 c.from_residual.ensures.1

pub returns-in_err-table-clause-used : goal.returns-in_err-table-clause-used
returns-in_err-table-clause-used c = no_value _ c.from_residual.result c.in_err-table.field-0.0 c.from_residual.ensures.1

pub returns-in_err-table-clause-names : goal.returns-in_err-table-clause-names
returns-in_err-table-clause-names c = no_value _ c.from_residual.result c.in_err-table.field-0.0 c.from_residual.ensures.1

pub returns-in_err-table-clause-kind : goal.returns-in_err-table-clause-kind
returns-in_err-table-clause-kind c = err_passed c.from_residual.result c.in_err-table.field-0.0 _ c.from_residual.ensures.1 (column_barred_either c.args.self.now.database c.args.name.now c.args.column c.in_err-table.field-0.0 c.in_err-table.ensures.early)

pub returns-in_err-table-clause-early : goal.returns-in_err-table-clause-early
returns-in_err-table-clause-early c = first_answered (early_column_refusals c.args.self.now.database c.args.name.now c.args.column) c.from_residual.result c.in_err-table.field-0.0 c.from_residual.ensures.1 c.in_err-table.ensures.early

pub returns-in_err-clone-clause-ok : goal.returns-in_err-clone-clause-ok
returns-in_err-clone-clause-ok c = no_value _ c.from_residual-in_err-clone.result c.in_err-clone.field-0.0 c.from_residual-in_err-clone.ensures.1

pub returns-in_err-clone-clause-used : goal.returns-in_err-clone-clause-used
returns-in_err-clone-clause-used c = no_value _ c.from_residual-in_err-clone.result c.in_err-clone.field-0.0 c.from_residual-in_err-clone.ensures.1

pub returns-in_err-clone-clause-names : goal.returns-in_err-clone-clause-names
returns-in_err-clone-clause-names c = no_value _ c.from_residual-in_err-clone.result c.in_err-clone.field-0.0 c.from_residual-in_err-clone.ensures.1

pub returns-in_err-clone-clause-kind : goal.returns-in_err-clone-clause-kind
returns-in_err-clone-clause-kind c = memory_refused c.from_residual-in_err-clone.result c.in_err-clone.field-0.0 _ c.from_residual-in_err-clone.ensures.1 c.in_err-clone.ensures.kind

pub returns-in_err-clone-clause-early : goal.returns-in_err-clone-clause-early
returns-in_err-clone-clause-early c = none_answered (early_column_refusals c.args.self.now.database c.args.name.now c.args.column) _ c.in_ok-table.ensures.passed

pub returns-in_err-rows-clause-ok : goal.returns-in_err-rows-clause-ok
returns-in_err-rows-clause-ok c = no_value _ c.from_residual-in_err-rows.result c.in_err-rows.field-0.0 c.from_residual-in_err-rows.ensures.1

pub returns-in_err-rows-clause-used : goal.returns-in_err-rows-clause-used
returns-in_err-rows-clause-used c = no_value _ c.from_residual-in_err-rows.result c.in_err-rows.field-0.0 c.from_residual-in_err-rows.ensures.1

pub returns-in_err-rows-clause-names : goal.returns-in_err-rows-clause-names
returns-in_err-rows-clause-names c = no_value _ c.from_residual-in_err-rows.result c.in_err-rows.field-0.0 c.from_residual-in_err-rows.ensures.1

pub returns-in_err-rows-clause-kind : goal.returns-in_err-rows-clause-kind
returns-in_err-rows-clause-kind c = let there = known_there c.args.self.now.database c.args.name.now c.in_ok-table.table.now c.in_ok-table.ensures.known in
    err_passed c.from_residual-in_err-rows.result c.in_err-rows.field-0.0 _ c.from_residual-in_err-rows.ensures.1
    (column_rows_refused c.args.self.now (subst IsKeptDatabase c.self.view_is c.self.invariant.kept) c.in_ok-table.ensures.sound c.self.inside.pool (ap (λ (k : Kept). k.database.pool) c.self.view_is)
    c.in_ok-clone.field-0 (c.in_ok-clone.ensures.ok) c.new-pool.result c.new-pool.ensures c.args.name.now c.in_ok-table.table.now.name c.in_ok-table.ensures.known.named c.args.column c.args.column refl
    there.0 there.1 c.in_ok-table.ensures.passed c.in_err-rows.field-0.0 c.in_err-rows.ensures.kind)

pub returns-in_err-rows-clause-early : goal.returns-in_err-rows-clause-early
returns-in_err-rows-clause-early c = none_answered (early_column_refusals c.args.self.now.database c.args.name.now c.args.column) _ c.in_ok-table.ensures.passed

pub returns-in_err-columns-clause-ok : goal.returns-in_err-columns-clause-ok
returns-in_err-columns-clause-ok c = no_value _ c.from_residual-in_err-columns.result c.in_err-columns.field-0.0 c.from_residual-in_err-columns.ensures.1

pub returns-in_err-columns-clause-used : goal.returns-in_err-columns-clause-used
returns-in_err-columns-clause-used c = no_value _ c.from_residual-in_err-columns.result c.in_err-columns.field-0.0 c.from_residual-in_err-columns.ensures.1

pub returns-in_err-columns-clause-names : goal.returns-in_err-columns-clause-names
returns-in_err-columns-clause-names c = no_value _ c.from_residual-in_err-columns.result c.in_err-columns.field-0.0 c.from_residual-in_err-columns.ensures.1

pub returns-in_err-columns-clause-kind : goal.returns-in_err-columns-clause-kind
returns-in_err-columns-clause-kind c = memory_refused c.from_residual-in_err-columns.result c.in_err-columns.field-0.0 _ c.from_residual-in_err-columns.ensures.1 c.in_err-columns.ensures.kind

pub returns-in_err-columns-clause-early : goal.returns-in_err-columns-clause-early
returns-in_err-columns-clause-early c = none_answered (early_column_refusals c.args.self.now.database c.args.name.now c.args.column) _ c.in_ok-table.ensures.passed
