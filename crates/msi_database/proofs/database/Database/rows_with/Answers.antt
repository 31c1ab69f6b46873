use Rattle.std.proofs.Common.{◌≡◌, ap, sym, subst, ◌∙◌, Some, true}
use Rattle.std.specs.Prelude.{IfErr}
use Rattle.std.proofs.lemmas.Result.{IfOk-weaker}
use Rattle.msi_base.specs.declared.errors.ErrorKind.TheVariants.{InvalidInput}
use Rattle.msi_base.specs.Refusals.{IsRefusal, or_refused}
use Rattle.msi_database_changes.specs.Texts.{in_use}
use Rattle.msi_database_changes.specs.Insert.{cells_added}
use Rattle.msi_database.specs.Creating.{rows_with}
use Rattle.msi_database.proofs.widths.CreatingAtBothWidthsLemmas.{rows_at_last}
use Rattle.msi_database_storage.proofs.PassedLemmas.{memory_refused, no_value}
use Rattle.msi_database.proofs.database.Database.rows_with.Goals as goal

at_last : (c : goal.After-add_rows) → rows_with c.args.self.now.database c.args.name.now c.args.values.items (in_use c.args.pool.now)
    ≡ or_refused InvalidInput (cells_added true c.columns-columns.result.now (in_use c.args.pool.now) c.in_ok-held.held.items c.args.values.items)
at_last c = rows_at_last c.args.self.now.database c.args.name.now c.in-Some.table.now c.in-Some.ensures c.columns-columns.result.now c.columns-columns.ensures.columns
    c.in_ok-held.held.items c.in_ok-held.ensures.ok c.args.values.items c.args.pool.now c.pool.result.now c.pool.ensures.places c.as_slice.result.now c.as_slice.ensures.value c.as_slice-2.result.now c.as_slice-2.ensures.value
    c.in_ok-refuse_rows.ensures.ok

pub returns-clause-ok : goal.returns-clause-ok
returns-clause-ok c = IfOk-weaker c.add_rows.result (λ all. cells_added true c.columns-columns.result.now (in_use c.args.pool.now) c.in_ok-held.held.items c.args.values.items ≡ Some (all.items, in_use c.add_rows.new.pool)) _
    (λ all e. at_last c ∙ ap (or_refused InvalidInput) e) c.add_rows.ensures.ok

pub returns-clause-kind : goal.returns-clause-kind
returns-clause-kind c = subst (λ r. IfErr c.add_rows.result (IsRefusal r)) (sym (at_last c)) c.add_rows.ensures.kind

pub returns-in_err-held-clause-ok : goal.returns-in_err-held-clause-ok
returns-in_err-held-clause-ok c = no_value _ c.from_residual.result c.in_err-held.field-0.0 c.from_residual.ensures.1

pub returns-in_err-held-clause-kind : goal.returns-in_err-held-clause-kind
returns-in_err-held-clause-kind c = memory_refused c.from_residual.result c.in_err-held.field-0.0 _ c.from_residual.ensures.1 c.in_err-held.ensures.kind

pub returns-in_err-refuse_rows-clause-ok : goal.returns-in_err-refuse_rows-clause-ok
returns-in_err-refuse_rows-clause-ok c = no_value _ c.from_residual-in_err-refuse_rows.result c.in_err-refuse_rows.field-0.0 c.from_residual-in_err-refuse_rows.ensures.1
