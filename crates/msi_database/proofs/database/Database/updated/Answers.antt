use Rattle.std.proofs.Common.{◌∙◌, ap, refl, sym, List, subst}
use Rattle.std.proofs.lemmas.Result.{IfOk-weaker}
use Rattle.msi_table_cells.specs.declared.cell.ValueRef.{ValueRef}
use Rattle.msi_table_values.specs.Columns.{ColumnDef}
use Rattle.msi_base.specs.Refusals.{first_refusal}
use Rattle.msi_base.proofs.RefusalLemmas.{err_passed}
use Rattle.msi_database_changes.specs.Insert.{table_with}
use Rattle.msi_database_changes.specs.Update.{is_update_barred, keys_collide, set_refusals}
use Rattle.msi_database_changes.specs.RowUpdates.{update_of}
use Rattle.msi_database_storage.specs.Kept.{Kept}
use Rattle.msi_database.specs.Keeping.{IsKeptDatabase}
use Rattle.msi_database.specs.Making.{IsAnew}
use Rattle.msi_database.proofs.calls.RowCallLemmas.{update_called}
use Rattle.msi_database.proofs.calls.UpdateCallLemmas.{update_collides, update_full, update_passes}
use Rattle.msi_database.proofs.database.Database.updated.Goals as goal

pub returns-in_err-refuse_collisions-clause-kind : goal.returns-in_err-refuse_collisions-clause-kind
returns-in_err-refuse_collisions-clause-kind c = let d = c.self.inside in
    err_passed c.from_residual-in_err-refuse_collisions.result c.in_err-refuse_collisions.field-0.0 _ c.from_residual-in_err-refuse_collisions.ensures.1
    (update_collides d.pool c.args.self.now.database (ap (λ (k : Kept). k.database.pool) c.self.view_is) c.requires.sound (update_of c.args.update.now) c.requires.free c.args.table.now c.requires.known c.requires.fits
    c.columns-columns.result.now c.columns-columns.ensures.columns c.in_ok-held.held.items c.in_ok-held.ensures.ok
    c.in_err-refuse_collisions.field-0.0 c.as_slice.result.now c.as_slice.ensures.value c.in_err-refuse_collisions.ensures.kind)

pub returns-in_err-all-clause-kind : goal.returns-in_err-all-clause-kind
returns-in_err-all-clause-kind c = let d = c.self.inside in
    err_passed c.from_residual-in_err-all.result c.in_err-all.field-0.0 _ c.from_residual-in_err-all.ensures.1
    (update_full d.pool c.args.self.now.database (ap (λ (k : Kept). k.database.pool) c.self.view_is) c.requires.sound (update_of c.args.update.now) c.requires.free c.args.table.now c.requires.known c.requires.fits
    c.columns-columns.result.now c.columns-columns.ensures.columns c.in_ok-held.held.items c.in_ok-held.ensures.ok
    c.in_err-all.field-0.0 c.in_ok-clone.field-0 (c.in_ok-clone.ensures.ok) c.new-pool.result c.new-pool.ensures
    (ap (λ (rows : List (List ValueRef)). keys_collide d.pool.places (table_with c.columns-columns.result.now rows) (update_of c.args.update.now)) (sym c.as_slice.ensures.value) ∙ c.in_ok-refuse_collisions.ensures.ok)
    c.in_err-all.ensures.kind)

pub rows_anew-requires-clause-storable : goal.rows_anew-requires-clause-storable
rows_anew-requires-clause-storable c = let d = c.self.inside in let q = update_of c.args.update.now in
    (update_called c.args.self.now (subst IsKeptDatabase c.self.view_is c.self.invariant.kept) c.requires.sound d.pool (ap (λ (k : Kept). k.database.pool) c.self.view_is) c.args.update.now.table c.args.table.now c.requires.known
    c.columns-columns.result.now c.columns-columns.ensures.columns c.in_ok-held.held.items c.in_ok-held.ensures.ok c.in_ok-clone.field-0 (c.in_ok-clone.ensures.ok) c.new-pool.result c.new-pool.ensures c.in_ok-all.all.items c.updated_rows.new.pool c.in_ok-all.ensures.page c.in_ok-all.ensures.long
    q refl (is_update_barred q) refl c.requires.free
    (update_passes d.pool.places c.columns-columns.result.now c.in_ok-held.held.items q (ap (λ (cs : List ColumnDef). first_refusal (set_refusals cs q)) c.columns-columns.ensures.columns ∙ c.requires.fits)
    (ap (λ (rows : List (List ValueRef)). keys_collide d.pool.places (table_with c.columns-columns.result.now rows) (update_of c.args.update.now)) (sym c.as_slice.ensures.value) ∙ c.in_ok-refuse_collisions.ensures.ok))
    c.in_ok-all.ensures.ok).can_store

pub returns-clause-ok : goal.returns-clause-ok
returns-clause-ok c = let d = c.self.inside in let q = update_of c.args.update.now in
    IfOk-weaker c.rows_anew.result (λ new. IsAnew c.args.self.now c.args.table.now c.in_ok-all.all.items c.updated_rows.new.pool new.wide new.stored new.pool new.is_pool_used) _ (λ new is.
    (update_called c.args.self.now (subst IsKeptDatabase c.self.view_is c.self.invariant.kept) c.requires.sound d.pool (ap (λ (k : Kept). k.database.pool) c.self.view_is) c.args.update.now.table c.args.table.now c.requires.known
    c.columns-columns.result.now c.columns-columns.ensures.columns c.in_ok-held.held.items c.in_ok-held.ensures.ok c.in_ok-clone.field-0 (c.in_ok-clone.ensures.ok) c.new-pool.result c.new-pool.ensures c.in_ok-all.all.items c.updated_rows.new.pool c.in_ok-all.ensures.page c.in_ok-all.ensures.long
    q refl (is_update_barred q) refl c.requires.free
    (update_passes d.pool.places c.columns-columns.result.now c.in_ok-held.held.items q (ap (λ (cs : List ColumnDef). first_refusal (set_refusals cs q)) c.columns-columns.ensures.columns ∙ c.requires.fits)
    (ap (λ (rows : List (List ValueRef)). keys_collide d.pool.places (table_with c.columns-columns.result.now rows) (update_of c.args.update.now)) (sym c.as_slice.ensures.value) ∙ c.in_ok-refuse_collisions.ensures.ok))
    c.in_ok-all.ensures.ok).makes new.wide new.stored new.pool new.is_pool_used is)
    c.rows_anew.ensures.ok

pub returns-clause-used : goal.returns-clause-used
returns-clause-used c = let d = c.self.inside in let q = update_of c.args.update.now in
    IfOk-weaker c.rows_anew.result (λ new. IsAnew c.args.self.now c.args.table.now c.in_ok-all.all.items c.updated_rows.new.pool new.wide new.stored new.pool new.is_pool_used) _ (λ new is.
    (update_called c.args.self.now (subst IsKeptDatabase c.self.view_is c.self.invariant.kept) c.requires.sound d.pool (ap (λ (k : Kept). k.database.pool) c.self.view_is) c.args.update.now.table c.args.table.now c.requires.known
    c.columns-columns.result.now c.columns-columns.ensures.columns c.in_ok-held.held.items c.in_ok-held.ensures.ok c.in_ok-clone.field-0 (c.in_ok-clone.ensures.ok) c.new-pool.result c.new-pool.ensures c.in_ok-all.all.items c.updated_rows.new.pool c.in_ok-all.ensures.page c.in_ok-all.ensures.long
    q refl (is_update_barred q) refl c.requires.free
    (update_passes d.pool.places c.columns-columns.result.now c.in_ok-held.held.items q (ap (λ (cs : List ColumnDef). first_refusal (set_refusals cs q)) c.columns-columns.ensures.columns ∙ c.requires.fits)
    (ap (λ (rows : List (List ValueRef)). keys_collide d.pool.places (table_with c.columns-columns.result.now rows) (update_of c.args.update.now)) (sym c.as_slice.ensures.value) ∙ c.in_ok-refuse_collisions.ensures.ok))
    c.in_ok-all.ensures.ok).uses new.wide new.stored new.pool new.is_pool_used is)
    c.rows_anew.ensures.ok
