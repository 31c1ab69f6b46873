use Rattle.msi_base.proofs.RefusalLemmas.{accepted_first, first_passed, err_passed}
use Rattle.msi_database_changes.specs.AddColumn.{add_column, early_column_refusals}
use Rattle.msi_database.specs.Making.{base_with}
use Rattle.msi_database.proofs.calls.RowCallLemmas.{makes_kept, makes_leaves, makes_sound}
use Rattle.msi_database_storage.proofs.PassedLemmas.{memory_refused, no_value, on_error}
use Rattle.std.proofs.Common.{refl}
use Rattle.msi_database.proofs.database.Database.add_column.Goals as goal

pub finish_tables-requires-clause-kept : goal.finish_tables-requires-clause-kept
finish_tables-requires-clause-kept c = let old = c.args.self.now in let new = c.in_ok-new.field-0.new in
    makes_kept old (add_column old.database c.args.name.now c.args.column) (base_with new.wide old) new.pool new.tables new.stored.items c.in_ok-new.ensures.ok

pub returns-clause-ok : goal.returns-clause-ok
returns-clause-ok c = let old = c.args.self.now in let new = c.in_ok-new.field-0.new in
    makes_leaves old c.finish_tables.new.self (add_column old.database c.args.name.now c.args.column) (base_with new.wide old) new.pool new.tables new.stored.items c.in_ok-new.ensures.ok c.in_ok-finish_tables.ensures.ok

pub finish_tables-requires-clause-sound : goal.finish_tables-requires-clause-sound
finish_tables-requires-clause-sound c = let old = c.args.self.now in let new = c.in_ok-new.field-0.new in
    makes_sound old (add_column old.database c.args.name.now c.args.column) (base_with new.wide old) new.pool new.tables new.stored.items c.in_ok-new.ensures.ok

pub returns-in_err-new-clause-early : goal.returns-in_err-new-clause-early
returns-in_err-new-clause-early c =
    first_passed _ (early_column_refusals c.args.self.now.database c.args.name.now c.args.column) c.in_err-new.field-0.0 c.from_residual.result c.from_residual.ensures.1 c.in_err-new.ensures.early

pub returns-in_err-finish_tables-clause-early : goal.returns-in_err-finish_tables-clause-early
returns-in_err-finish_tables-clause-early c =
    accepted_first (early_column_refusals c.args.self.now.database c.args.name.now c.args.column) c.in_ok-new.field-0 c.from_residual-in_err-finish_tables.result c.in_ok-new.ensures.early

pub returns-clause-early : goal.returns-clause-early
returns-clause-early c =
    accepted_first (early_column_refusals c.args.self.now.database c.args.name.now c.args.column) c.in_ok-new.field-0 _ c.in_ok-new.ensures.early

pub returns-in_err-new-clause-ok : goal.returns-in_err-new-clause-ok
returns-in_err-new-clause-ok c = no_value _ c.from_residual.result c.in_err-new.field-0.0 c.from_residual.ensures.1

pub returns-in_err-new-clause-used : goal.returns-in_err-new-clause-used
returns-in_err-new-clause-used c = no_value _ c.from_residual.result c.in_err-new.field-0.0 c.from_residual.ensures.1

pub returns-in_err-new-clause-same : goal.returns-in_err-new-clause-same
returns-in_err-new-clause-same c = on_error _ c.from_residual.result refl

pub returns-in_err-new-clause-kind : goal.returns-in_err-new-clause-kind
returns-in_err-new-clause-kind c = err_passed c.from_residual.result c.in_err-new.field-0.0 _ c.from_residual.ensures.1 c.in_err-new.ensures.kind

pub returns-in_err-finish_tables-clause-ok : goal.returns-in_err-finish_tables-clause-ok
returns-in_err-finish_tables-clause-ok c = no_value _ c.from_residual-in_err-finish_tables.result c.in_err-finish_tables.field-0.0 c.from_residual-in_err-finish_tables.ensures.1

pub returns-in_err-finish_tables-clause-used : goal.returns-in_err-finish_tables-clause-used
returns-in_err-finish_tables-clause-used c = no_value _ c.from_residual-in_err-finish_tables.result c.in_err-finish_tables.field-0.0 c.from_residual-in_err-finish_tables.ensures.1

pub returns-in_err-finish_tables-clause-same : goal.returns-in_err-finish_tables-clause-same
returns-in_err-finish_tables-clause-same c = on_error _ c.from_residual-in_err-finish_tables.result c.in_err-finish_tables.ensures.same

pub returns-in_err-finish_tables-clause-kind : goal.returns-in_err-finish_tables-clause-kind
returns-in_err-finish_tables-clause-kind c = memory_refused c.from_residual-in_err-finish_tables.result c.in_err-finish_tables.field-0.0 _ c.from_residual-in_err-finish_tables.ensures.1 c.in_err-finish_tables.ensures.kind

pub returns-clause-used : goal.returns-clause-used
returns-clause-used c = c.in_ok-new.ensures.used

pub returns-clause-same : goal.returns-clause-same
returns-clause-same c = tt

pub returns-clause-kind : goal.returns-clause-kind
returns-clause-kind c = tt

pub finish_tables-requires-clause-names : goal.finish_tables-requires-clause-names
finish_tables-requires-clause-names c = c.in_ok-new.ensures.names
