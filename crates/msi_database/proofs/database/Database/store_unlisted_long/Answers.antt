use Rattle.std.proofs.Common.{◌≡◌, List, ap, subst, sym, ◌∙◌}
use Rattle.std.proofs.lemmas.Result.{on_ok_weaker, err_from_is_err_and}
use Rattle.std.specs.FinMap.{entries}
use Rattle.msi_base.specs.declared.errors.ErrorKind.{ErrorKind}
use Rattle.msi_base.specs.declared.errors.ErrorKind.TheVariants.{OutOfMemory}
use Rattle.msi_table_cells.specs.declared.cell.ValueRef.{ValueRef}
use Rattle.msi_table.specs.Tables.{CanStore}
use Rattle.msi_database_schema.specs.System.{validation_name}
use Rattle.msi_database_changes.specs.Insert.{table_with}
use Rattle.msi_database_storage.specs.Kept.{Kept}
use Rattle.msi_database_storage.specs.Widening.{with_long_rows}
use Rattle.msi_database.specs.Keeping.{IsKeptDatabase}
use Rattle.msi_database.proofs.keeping.WholeTableLemmas.{kind_passed}
use Rattle.msi_database.proofs.widths.WideningCallLemmas.{unlisted_is, unlisted_memory, unlisted_named, unlisted_none, unlisted_store}
use Rattle.msi_database.proofs.database.Database.store_unlisted_long.Goals as goal

pub returns-then-has_table-clause-ok : goal.returns-then-has_table-clause-ok
returns-then-has_table-clause-ok c = unlisted_none c.args.self.now (subst IsKeptDatabase c.self.view_is c.self.invariant.kept) c.has_table.result c.has_table.ensures c.if-has_table.true (entries c.args.streams.now)

pub returns-in_err-rows-clause-kind : goal.returns-in_err-rows-clause-kind
returns-in_err-rows-clause-kind c = kind_passed (λ (kind : ErrorKind). kind ≡ OutOfMemory) c.from_residual-in_err-rows.result c.in_err-rows.field-0.0 c.from_residual-in_err-rows.ensures.1
    (unlisted_memory c.args.self.now (subst IsKeptDatabase c.self.view_is c.self.invariant.kept) c.requires c.has_table.result c.has_table.ensures c.if-has_table.false c.in_ok-validation.validation
    (c.in_ok-validation.ensures.ok ∙ (λ i. record { name = validation_name; columns = c.in_ok-columns.ensures.ok i; long = (c.long_string_refs-long.ensures ∙ ap (λ (k : Kept). k.database.pool.long) c.self.view_is) i }))
    (entries c.self.inside.streams) (ap (λ (k : Kept). k.streams) c.self.view_is) c.in_err-rows.field-0.0 c.in_err-rows.ensures.kind)

pub store_long-requires-clause-named : goal.store_long-requires-clause-named
store_long-requires-clause-named c = unlisted_named c.args.self.now (subst IsKeptDatabase c.self.view_is c.self.invariant.kept) c.requires c.has_table.result c.has_table.ensures c.if-has_table.false c.in_ok-validation.validation
    (c.in_ok-validation.ensures.ok ∙ (λ i. record { name = validation_name; columns = c.in_ok-columns.ensures.ok i; long = (c.long_string_refs-long.ensures ∙ ap (λ (k : Kept). k.database.pool.long) c.self.view_is) i }))

pub store_long-requires-clause-storable : goal.store_long-requires-clause-storable
store_long-requires-clause-storable c = subst (CanStore c.in_ok-validation.validation) (sym c.as_slice.ensures.value)
    (unlisted_store c.args.self.now (subst IsKeptDatabase c.self.view_is c.self.invariant.kept) c.requires c.has_table.result c.has_table.ensures c.if-has_table.false c.in_ok-validation.validation
    (c.in_ok-validation.ensures.ok ∙ (λ i. record { name = validation_name; columns = c.in_ok-columns.ensures.ok i; long = (c.long_string_refs-long.ensures ∙ ap (λ (k : Kept). k.database.pool.long) c.self.view_is) i }))
    (entries c.self.inside.streams) (ap (λ (k : Kept). k.streams) c.self.view_is) c.in_ok-rows.rows.items c.in_ok-rows.ensures.ok)

pub returns-clause-ok : goal.returns-clause-ok
returns-clause-ok c = on_ok_weaker {P = entries c.store_long.new.streams ≡ with_long_rows (entries c.args.streams.now) (c.in_ok-validation.validation.name, table_with c.in_ok-validation.validation.columns c.as_slice.result.now)} c.store_long.result
    (λ e. e ∙ ap (λ (rows : List (List ValueRef)). with_long_rows (entries c.args.streams.now) (c.in_ok-validation.validation.name, table_with c.in_ok-validation.validation.columns rows)) c.as_slice.ensures.value
    ∙ unlisted_is c.args.self.now (subst IsKeptDatabase c.self.view_is c.self.invariant.kept) c.requires c.has_table.result c.has_table.ensures c.if-has_table.false c.in_ok-validation.validation
    (c.in_ok-validation.ensures.ok ∙ (λ i. record { name = validation_name; columns = c.in_ok-columns.ensures.ok i; long = (c.long_string_refs-long.ensures ∙ ap (λ (k : Kept). k.database.pool.long) c.self.view_is) i }))
    (entries c.self.inside.streams) (ap (λ (k : Kept). k.streams) c.self.view_is) c.in_ok-rows.rows.items c.in_ok-rows.ensures.ok (entries c.args.streams.now))
    c.store_long.ensures.ok

pub returns-in_err-columns-clause-ok : goal.returns-in_err-columns-clause-ok
returns-in_err-columns-clause-ok c = let p = err_from_is_err_and c.from_residual.result c.from_residual.ensures.1 in rw p.1 tt

pub returns-in_err-validation-clause-ok : goal.returns-in_err-validation-clause-ok
returns-in_err-validation-clause-ok c = let p = err_from_is_err_and c.from_residual-in_err-validation.result c.from_residual-in_err-validation.ensures.1 in rw p.1 tt

pub returns-in_err-rows-clause-ok : goal.returns-in_err-rows-clause-ok
returns-in_err-rows-clause-ok c = let p = err_from_is_err_and c.from_residual-in_err-rows.result c.from_residual-in_err-rows.ensures.1 in rw p.1 tt
