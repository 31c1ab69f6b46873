use Rattle.std.proofs.Common.{subst, refl}
use Rattle.msi_database.specs.Keeping.{IsKeptDatabase}
use Rattle.msi_database.proofs.table_changes.DroppingCallLemmas.{none_fit}
use Rattle.msi_database_storage.proofs.PassedLemmas.{memory_passed, no_value}
use Rattle.msi_base.specs.declared.errors.ErrorKind.TheVariants.{OutOfMemory}
use Rattle.msi_database.proofs.database.Database.drop_rows.Goals as goal

pub stream_of-requires-clause-storable : goal.stream_of-requires-clause-storable
stream_of-requires-clause-storable c =
    none_fit c.args.self.now (subst IsKeptDatabase c.self.view_is c.self.invariant.kept) c.args.table.now c.requires.known.long c.in_ok-held.held.items c.in_ok-held.ensures.ok c.new.result.items c.new.ensures.items

pub returns-in_err-held-clause-pool : goal.returns-in_err-held-clause-pool
returns-in_err-held-clause-pool c = no_value _ c.from_residual.result c.in_err-held.field-0.0 c.from_residual.ensures.1

pub returns-in_err-held-clause-stored : goal.returns-in_err-held-clause-stored
returns-in_err-held-clause-stored c = no_value _ c.from_residual.result c.in_err-held.field-0.0 c.from_residual.ensures.1

pub returns-in_err-held-clause-kind : goal.returns-in_err-held-clause-kind
returns-in_err-held-clause-kind c = memory_passed c.from_residual.result c.in_err-held.field-0.0 c.from_residual.ensures.1 c.in_err-held.ensures.kind

pub returns-in_err-release_rows-clause-pool : goal.returns-in_err-release_rows-clause-pool
returns-in_err-release_rows-clause-pool c = no_value _ c.from_residual-in_err-release_rows.result c.in_err-release_rows.field-0.0 c.from_residual-in_err-release_rows.ensures.1

pub returns-in_err-release_rows-clause-stored : goal.returns-in_err-release_rows-clause-stored
returns-in_err-release_rows-clause-stored c = no_value _ c.from_residual-in_err-release_rows.result c.in_err-release_rows.field-0.0 c.from_residual-in_err-release_rows.ensures.1

pub returns-in_err-release_rows-clause-kind : goal.returns-in_err-release_rows-clause-kind
returns-in_err-release_rows-clause-kind c = memory_passed c.from_residual-in_err-release_rows.result c.in_err-release_rows.field-0.0 c.from_residual-in_err-release_rows.ensures.1 c.in_err-release_rows.ensures.kind

pub returns-in_err-gone-clause-pool : goal.returns-in_err-gone-clause-pool
returns-in_err-gone-clause-pool c = no_value _ c.from_residual-in_err-gone.result c.in_err-gone.field-0.0 c.from_residual-in_err-gone.ensures.1

pub returns-in_err-gone-clause-stored : goal.returns-in_err-gone-clause-stored
returns-in_err-gone-clause-stored c = no_value _ c.from_residual-in_err-gone.result c.in_err-gone.field-0.0 c.from_residual-in_err-gone.ensures.1

pub returns-in_err-gone-clause-kind : goal.returns-in_err-gone-clause-kind
returns-in_err-gone-clause-kind c = memory_passed c.from_residual-in_err-gone.result c.in_err-gone.field-0.0 c.from_residual-in_err-gone.ensures.1 c.in_err-gone.ensures.kind

pub returns-in_err-push-clause-pool : goal.returns-in_err-push-clause-pool
returns-in_err-push-clause-pool c = no_value _ c.from_residual-in_err-push.result OutOfMemory c.from_residual-in_err-push.ensures.1

pub returns-in_err-push-clause-stored : goal.returns-in_err-push-clause-stored
returns-in_err-push-clause-stored c = no_value _ c.from_residual-in_err-push.result OutOfMemory c.from_residual-in_err-push.ensures.1

pub returns-in_err-push-clause-kind : goal.returns-in_err-push-clause-kind
returns-in_err-push-clause-kind c = memory_passed c.from_residual-in_err-push.result OutOfMemory c.from_residual-in_err-push.ensures.1 refl

pub returns-clause-kind : goal.returns-clause-kind
returns-clause-kind c = tt
