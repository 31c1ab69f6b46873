use Rattle.std.proofs.Common.{not, ◌++◌, List, subst, ap, ◌∙◌, refl}
use Rattle.msi_database_changes.specs.Drop.{is_row_about}
use Rattle.msi_database_changes.specs.declared.storing.Stored.{Stored}
use Rattle.msi_database_storage.specs.Kept.{Kept}
use Rattle.msi_database.specs.Keeping.{IsKeptDatabase}
use Rattle.msi_database.proofs.table_changes.DroppingCallLemmas.{fewer_fit, forgot}
use Rattle.msi_database_storage.proofs.PassedLemmas.{memory_passed, no_value}
use Rattle.msi_base.specs.declared.errors.ErrorKind.TheVariants.{OutOfMemory}
use Rattle.msi_database.proofs.database.Database.forget.Goals as goal

pub stream_of-requires-clause-storable : goal.stream_of-requires-clause-storable
stream_of-requires-clause-storable c =
    fewer_fit c.args.self.now (subst IsKeptDatabase c.self.view_is c.self.invariant.kept) c.in-Some.table.now c.in-Some.ensures.long c.in_ok-held.held.items c.in_ok-held.ensures.ok
    (λ row. not (is_row_about c.self.inside.pool.places c.args.name.now row)) c.in_ok-rows.rows.items c.in_ok-rows.ensures.ok

pub returns-clause-stored : goal.returns-clause-stored
returns-clause-stored c = let d = c.args.self.now.database in
    c.in_ok-push.ensures.items ∙ ap (λ (es : List Stored). c.args.dropping.now.stored.items ++ es)
    (forgot d c.args.name.now c.args.system.now c.in-Some.table.now c.in-Some.ensures c.in_ok-held.held.items c.in_ok-rows.rows.items c.in_ok-held.ensures.ok c.self.inside.pool (ap (λ (k : Kept). k.database.pool) c.self.view_is)
    c.in_ok-rows.ensures.ok c.in_ok-others.others c.in_ok-others.ensures.name c.in_ok-others.ensures.bytes)

pub returns-in_err-held-clause-pool : goal.returns-in_err-held-clause-pool
returns-in_err-held-clause-pool c = no_value _ c.from_residual.result c.in_err-held.field-0.0 c.from_residual.ensures.1

pub returns-in_err-held-clause-stored : goal.returns-in_err-held-clause-stored
returns-in_err-held-clause-stored c = no_value _ c.from_residual.result c.in_err-held.field-0.0 c.from_residual.ensures.1

pub returns-in_err-held-clause-kind : goal.returns-in_err-held-clause-kind
returns-in_err-held-clause-kind c = memory_passed c.from_residual.result c.in_err-held.field-0.0 c.from_residual.ensures.1 c.in_err-held.ensures.kind

pub returns-in_err-rows-clause-pool : goal.returns-in_err-rows-clause-pool
returns-in_err-rows-clause-pool c = no_value _ c.from_residual-in_err-rows.result c.in_err-rows.field-0.0 c.from_residual-in_err-rows.ensures.1

pub returns-in_err-rows-clause-stored : goal.returns-in_err-rows-clause-stored
returns-in_err-rows-clause-stored c = no_value _ c.from_residual-in_err-rows.result c.in_err-rows.field-0.0 c.from_residual-in_err-rows.ensures.1

pub returns-in_err-rows-clause-kind : goal.returns-in_err-rows-clause-kind
returns-in_err-rows-clause-kind c = memory_passed c.from_residual-in_err-rows.result c.in_err-rows.field-0.0 c.from_residual-in_err-rows.ensures.1 c.in_err-rows.ensures.kind

pub returns-in_err-others-clause-pool : goal.returns-in_err-others-clause-pool
returns-in_err-others-clause-pool c = no_value _ c.from_residual-in_err-others.result c.in_err-others.field-0.0 c.from_residual-in_err-others.ensures.1

pub returns-in_err-others-clause-stored : goal.returns-in_err-others-clause-stored
returns-in_err-others-clause-stored c = no_value _ c.from_residual-in_err-others.result c.in_err-others.field-0.0 c.from_residual-in_err-others.ensures.1

pub returns-in_err-others-clause-kind : goal.returns-in_err-others-clause-kind
returns-in_err-others-clause-kind c = memory_passed c.from_residual-in_err-others.result c.in_err-others.field-0.0 c.from_residual-in_err-others.ensures.1 c.in_err-others.ensures.kind

pub returns-in_err-push-clause-pool : goal.returns-in_err-push-clause-pool
returns-in_err-push-clause-pool c = no_value _ c.from_residual-in_err-push.result OutOfMemory c.from_residual-in_err-push.ensures.1

pub returns-in_err-push-clause-stored : goal.returns-in_err-push-clause-stored
returns-in_err-push-clause-stored c = no_value _ c.from_residual-in_err-push.result OutOfMemory c.from_residual-in_err-push.ensures.1

pub returns-in_err-push-clause-kind : goal.returns-in_err-push-clause-kind
returns-in_err-push-clause-kind c = memory_passed c.from_residual-in_err-push.result OutOfMemory c.from_residual-in_err-push.ensures.1 refl
