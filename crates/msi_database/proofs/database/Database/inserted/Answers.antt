use Rattle.std.proofs.Common.{◌∙◌, ap, ap₂, refl, sym, List, subst}
use Rattle.std.proofs.lemmas.Result.{IfOk-weaker, err_from_is_err_and}
use Rattle.msi_table_values.specs.declared.value.Value.{Value}
use Rattle.msi_table_cells.specs.declared.cell.ValueRef.{ValueRef}
use Rattle.msi_base.specs.Refusals.{first_refusal}
use Rattle.msi_base.proofs.RefusalLemmas.{err_passed}
use Rattle.msi_database_schema.specs.System.{is_system_table}
use Rattle.msi_database_changes.specs.Insert.{row_refusals, table_with}
use Rattle.msi_database_storage.specs.Kept.{Kept}
use Rattle.msi_database.specs.Keeping.{IsKeptDatabase}
use Rattle.msi_database.specs.Making.{IsAnew, insert_of}
use Rattle.msi_database.proofs.calls.InsertCallLemmas.{insert_full, insert_misfit, values_whole}
use Rattle.msi_database.proofs.calls.RowCallLemmas.{insert_called}
use Rattle.msi_database.proofs.database.Database.inserted.Goals as goal

pub returns-in_err-refuse_rows-clause-kind : goal.returns-in_err-refuse_rows-clause-kind
returns-in_err-refuse_rows-clause-kind c = let d = c.self.inside in
    err_passed c.from_residual-in_err-refuse_rows.result c.in_err-refuse_rows.field-0.0 _ c.from_residual-in_err-refuse_rows.ensures.1
    (insert_misfit d.pool c.args.self.now.database (ap (λ (k : Kept). k.database.pool) c.self.view_is) c.requires.sound (insert_of c.args.insert) c.requires.passed c.requires.free c.args.table.now c.requires.known
    c.columns-columns.result.now c.columns-columns.ensures.columns c.in_ok-held.held.items c.in_ok-held.ensures.ok c.as_slice-rows.result.now c.as_slice-rows.ensures.value
    c.as_slice.result.now (c.as_slice.ensures.value ∙ (values_whole c.args.self.now.database (insert_of c.args.insert) c.args.table.now c.requires.known c.columns-columns.result.now c.columns-columns.ensures.columns
    c.in_ok-held.held.items c.in_ok-held.ensures.ok c.as_slice-names.result.now c.as_slice-names.ensures c.into_vec.result.items c.into_vec.ensures c.in_ok-values.values.items c.in_ok-values.ensures.ok)) c.in_err-refuse_rows.field-0.0 c.in_err-refuse_rows.ensures.kind)

pub returns-in_err-all-clause-kind : goal.returns-in_err-all-clause-kind
returns-in_err-all-clause-kind c = let d = c.self.inside in
    err_passed c.from_residual-in_err-all.result c.in_err-all.field-0.0 _ c.from_residual-in_err-all.ensures.1
    (insert_full d.pool c.args.self.now.database (ap (λ (k : Kept). k.database.pool) c.self.view_is) c.requires.sound c.args.insert.table c.args.table.now c.requires.known
    c.columns-columns.result.now c.columns-columns.ensures.columns c.in_ok-held.held.items c.in_ok-held.ensures.ok c.in_ok-clone.field-0 (c.in_ok-clone.ensures.ok) c.new-pool.result c.new-pool.ensures
    (insert_of c.args.insert) c.requires.passed c.in_ok-values.values.items refl (values_whole c.args.self.now.database (insert_of c.args.insert) c.args.table.now c.requires.known c.columns-columns.result.now c.columns-columns.ensures.columns
    c.in_ok-held.held.items c.in_ok-held.ensures.ok c.as_slice-names.result.now c.as_slice-names.ensures c.into_vec.result.items c.into_vec.ensures c.in_ok-values.values.items c.in_ok-values.ensures.ok) (is_system_table c.args.insert.table) refl c.requires.free
    (ap₂ (λ (rows : List (List ValueRef)) (values : List (List Value)). first_refusal (row_refusals d.pool.places (table_with c.columns-columns.result.now rows) values)) (sym c.as_slice-rows.ensures.value) (sym c.as_slice.ensures.value) ∙ c.in_ok-refuse_rows.ensures.ok)
    c.in_err-all.field-0.0 c.in_err-all.ensures.kind)

pub rows_anew-requires-clause-storable : goal.rows_anew-requires-clause-storable
rows_anew-requires-clause-storable c = let d = c.self.inside in
    (insert_called c.args.self.now (subst IsKeptDatabase c.self.view_is c.self.invariant.kept) c.requires.sound d.pool (ap (λ (k : Kept). k.database.pool) c.self.view_is) c.args.insert.table c.args.table.now c.requires.known
    c.columns-columns.result.now c.columns-columns.ensures.columns c.in_ok-held.held.items c.in_ok-held.ensures.ok c.in_ok-clone.field-0 (c.in_ok-clone.ensures.ok) c.new-pool.result c.new-pool.ensures c.in_ok-all.all.items c.add_rows.new.pool c.in_ok-all.ensures.page c.in_ok-all.ensures.long
    (insert_of c.args.insert) c.requires.passed c.in_ok-values.values.items refl (values_whole c.args.self.now.database (insert_of c.args.insert) c.args.table.now c.requires.known c.columns-columns.result.now c.columns-columns.ensures.columns
    c.in_ok-held.held.items c.in_ok-held.ensures.ok c.as_slice-names.result.now c.as_slice-names.ensures c.into_vec.result.items c.into_vec.ensures c.in_ok-values.values.items c.in_ok-values.ensures.ok) (is_system_table c.args.insert.table) refl c.requires.free (ap₂ (λ (rows : List (List ValueRef)) (values : List (List Value)). first_refusal (row_refusals d.pool.places (table_with c.columns-columns.result.now rows) values)) (sym c.as_slice-rows.ensures.value) (sym c.as_slice.ensures.value) ∙ c.in_ok-refuse_rows.ensures.ok) c.in_ok-all.ensures.ok).can_store

pub returns-clause-ok : goal.returns-clause-ok
returns-clause-ok c = let d = c.self.inside in
    IfOk-weaker c.rows_anew.result (λ new. IsAnew c.args.self.now c.args.table.now c.in_ok-all.all.items c.add_rows.new.pool new.wide new.stored new.pool new.is_pool_used) _ (λ new is.
    (insert_called c.args.self.now (subst IsKeptDatabase c.self.view_is c.self.invariant.kept) c.requires.sound d.pool (ap (λ (k : Kept). k.database.pool) c.self.view_is) c.args.insert.table c.args.table.now c.requires.known
    c.columns-columns.result.now c.columns-columns.ensures.columns c.in_ok-held.held.items c.in_ok-held.ensures.ok c.in_ok-clone.field-0 (c.in_ok-clone.ensures.ok) c.new-pool.result c.new-pool.ensures c.in_ok-all.all.items c.add_rows.new.pool c.in_ok-all.ensures.page c.in_ok-all.ensures.long
    (insert_of c.args.insert) c.requires.passed c.in_ok-values.values.items refl (values_whole c.args.self.now.database (insert_of c.args.insert) c.args.table.now c.requires.known c.columns-columns.result.now c.columns-columns.ensures.columns
    c.in_ok-held.held.items c.in_ok-held.ensures.ok c.as_slice-names.result.now c.as_slice-names.ensures c.into_vec.result.items c.into_vec.ensures c.in_ok-values.values.items c.in_ok-values.ensures.ok) (is_system_table c.args.insert.table) refl c.requires.free (ap₂ (λ (rows : List (List ValueRef)) (values : List (List Value)). first_refusal (row_refusals d.pool.places (table_with c.columns-columns.result.now rows) values)) (sym c.as_slice-rows.ensures.value) (sym c.as_slice.ensures.value) ∙ c.in_ok-refuse_rows.ensures.ok) c.in_ok-all.ensures.ok).makes new.wide new.stored new.pool new.is_pool_used is)
    c.rows_anew.ensures.ok

pub returns-clause-used : goal.returns-clause-used
returns-clause-used c = let d = c.self.inside in
    IfOk-weaker c.rows_anew.result (λ new. IsAnew c.args.self.now c.args.table.now c.in_ok-all.all.items c.add_rows.new.pool new.wide new.stored new.pool new.is_pool_used) _ (λ new is.
    (insert_called c.args.self.now (subst IsKeptDatabase c.self.view_is c.self.invariant.kept) c.requires.sound d.pool (ap (λ (k : Kept). k.database.pool) c.self.view_is) c.args.insert.table c.args.table.now c.requires.known
    c.columns-columns.result.now c.columns-columns.ensures.columns c.in_ok-held.held.items c.in_ok-held.ensures.ok c.in_ok-clone.field-0 (c.in_ok-clone.ensures.ok) c.new-pool.result c.new-pool.ensures c.in_ok-all.all.items c.add_rows.new.pool c.in_ok-all.ensures.page c.in_ok-all.ensures.long
    (insert_of c.args.insert) c.requires.passed c.in_ok-values.values.items refl (values_whole c.args.self.now.database (insert_of c.args.insert) c.args.table.now c.requires.known c.columns-columns.result.now c.columns-columns.ensures.columns
    c.in_ok-held.held.items c.in_ok-held.ensures.ok c.as_slice-names.result.now c.as_slice-names.ensures c.into_vec.result.items c.into_vec.ensures c.in_ok-values.values.items c.in_ok-values.ensures.ok) (is_system_table c.args.insert.table) refl c.requires.free (ap₂ (λ (rows : List (List ValueRef)) (values : List (List Value)). first_refusal (row_refusals d.pool.places (table_with c.columns-columns.result.now rows) values)) (sym c.as_slice-rows.ensures.value) (sym c.as_slice.ensures.value) ∙ c.in_ok-refuse_rows.ensures.ok) c.in_ok-all.ensures.ok).uses new.wide new.stored new.pool new.is_pool_used is)
    c.rows_anew.ensures.ok

pub returns-in_err-held-clause-ok : goal.returns-in_err-held-clause-ok
returns-in_err-held-clause-ok c = let p = err_from_is_err_and c.from_residual.result c.from_residual.ensures.1 in rw p.1 tt

pub returns-in_err-held-clause-used : goal.returns-in_err-held-clause-used
returns-in_err-held-clause-used c = let p = err_from_is_err_and c.from_residual.result c.from_residual.ensures.1 in rw p.1 tt

pub returns-in_err-values-clause-ok : goal.returns-in_err-values-clause-ok
returns-in_err-values-clause-ok c = let p = err_from_is_err_and c.from_residual-in_err-values.result c.from_residual-in_err-values.ensures.1 in rw p.1 tt

pub returns-in_err-values-clause-used : goal.returns-in_err-values-clause-used
returns-in_err-values-clause-used c = let p = err_from_is_err_and c.from_residual-in_err-values.result c.from_residual-in_err-values.ensures.1 in rw p.1 tt

pub returns-in_err-refuse_rows-clause-ok : goal.returns-in_err-refuse_rows-clause-ok
returns-in_err-refuse_rows-clause-ok c = let p = err_from_is_err_and c.from_residual-in_err-refuse_rows.result c.from_residual-in_err-refuse_rows.ensures.1 in rw p.1 tt

pub returns-in_err-refuse_rows-clause-used : goal.returns-in_err-refuse_rows-clause-used
returns-in_err-refuse_rows-clause-used c = let p = err_from_is_err_and c.from_residual-in_err-refuse_rows.result c.from_residual-in_err-refuse_rows.ensures.1 in rw p.1 tt
