use Rattle.std.proofs.Common.{refl, ap, subst}
use Rattle.std.proofs.lemmas.Result.{IfOk-weaker, err_from_is_err_and}
use Rattle.msi_database.specs.Making.{IsAnew, delete_of}
use Rattle.msi_database_storage.specs.Kept.{Kept}
use Rattle.msi_database.specs.Keeping.{IsKeptDatabase}
use Rattle.msi_database.proofs.calls.RowCallLemmas.{delete_called}
use Rattle.msi_database.proofs.database.Database.deleted.Goals as goal

pub rows_anew-requires-clause-storable : goal.rows_anew-requires-clause-storable
rows_anew-requires-clause-storable c = let d = c.self.inside in
    (delete_called c.args.self.now (subst IsKeptDatabase c.self.view_is c.self.invariant.kept) c.requires.sound d.pool (ap (λ (k : Kept). k.database.pool) c.self.view_is) c.args.delete.now.table c.args.table.now c.requires.known
    c.columns-columns.result.now c.columns-columns.ensures.columns c.in_ok-held.held.items c.in_ok-held.ensures.ok c.in_ok-clone.field-0 (c.in_ok-clone.ensures.ok) c.new-pool.result c.new-pool.ensures c.in_ok-all.all.items c.remaining_rows.new.pool c.in_ok-all.ensures.page c.in_ok-all.ensures.long
    (delete_of c.args.delete.now) refl c.requires.free c.requires.fits c.in_ok-all.ensures.ok c.in_ok-all.ensures.released).can_store

pub returns-clause-ok : goal.returns-clause-ok
returns-clause-ok c = let d = c.self.inside in
    IfOk-weaker c.rows_anew.result (λ new. IsAnew c.args.self.now c.args.table.now c.in_ok-all.all.items c.remaining_rows.new.pool new.wide new.stored new.pool new.is_pool_used) _ (λ new is.
    (delete_called c.args.self.now (subst IsKeptDatabase c.self.view_is c.self.invariant.kept) c.requires.sound d.pool (ap (λ (k : Kept). k.database.pool) c.self.view_is) c.args.delete.now.table c.args.table.now c.requires.known
    c.columns-columns.result.now c.columns-columns.ensures.columns c.in_ok-held.held.items c.in_ok-held.ensures.ok c.in_ok-clone.field-0 (c.in_ok-clone.ensures.ok) c.new-pool.result c.new-pool.ensures c.in_ok-all.all.items c.remaining_rows.new.pool c.in_ok-all.ensures.page c.in_ok-all.ensures.long
    (delete_of c.args.delete.now) refl c.requires.free c.requires.fits c.in_ok-all.ensures.ok c.in_ok-all.ensures.released).makes new.wide new.stored new.pool new.is_pool_used is)
    c.rows_anew.ensures.ok

pub returns-clause-used : goal.returns-clause-used
returns-clause-used c = let d = c.self.inside in
    IfOk-weaker c.rows_anew.result (λ new. IsAnew c.args.self.now c.args.table.now c.in_ok-all.all.items c.remaining_rows.new.pool new.wide new.stored new.pool new.is_pool_used) _ (λ new is.
    (delete_called c.args.self.now (subst IsKeptDatabase c.self.view_is c.self.invariant.kept) c.requires.sound d.pool (ap (λ (k : Kept). k.database.pool) c.self.view_is) c.args.delete.now.table c.args.table.now c.requires.known
    c.columns-columns.result.now c.columns-columns.ensures.columns c.in_ok-held.held.items c.in_ok-held.ensures.ok c.in_ok-clone.field-0 (c.in_ok-clone.ensures.ok) c.new-pool.result c.new-pool.ensures c.in_ok-all.all.items c.remaining_rows.new.pool c.in_ok-all.ensures.page c.in_ok-all.ensures.long
    (delete_of c.args.delete.now) refl c.requires.free c.requires.fits c.in_ok-all.ensures.ok c.in_ok-all.ensures.released).uses new.wide new.stored new.pool new.is_pool_used is)
    c.rows_anew.ensures.ok

pub returns-in_err-held-clause-ok : goal.returns-in_err-held-clause-ok
returns-in_err-held-clause-ok c = let p = err_from_is_err_and c.from_residual.result c.from_residual.ensures.1 in rw p.1 tt

pub returns-in_err-held-clause-used : goal.returns-in_err-held-clause-used
returns-in_err-held-clause-used c = let p = err_from_is_err_and c.from_residual.result c.from_residual.ensures.1 in rw p.1 tt
