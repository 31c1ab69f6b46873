use Rattle.std.proofs.Common.{[]}
use Rattle.msi_base.proofs.RefusalLemmas.{err_is}
use Rattle.msi_database_changes.specs.Changes.{absent_refusals, barred_refusals, missing_or}
use Rattle.msi_database_changes.specs.Database.{table_at}
use Rattle.msi_database_changes.proofs.steps.RefusedLemmas.{front_holds}
use Rattle.msi_database.proofs.database.Database.table_to_change.Goals as goal

pub returns-in_err-refuse_change-clause-early : goal.returns-in_err-refuse_change-clause-early
returns-in_err-refuse_change-clause-early c = let d = c.args.self.now.database in let name = c.args.name.now in
    err_is c.from_residual.result c.in_err-refuse_change.field-0.0 (absent_refusals d c.args.is_barred name) c.from_residual.ensures.1
    (front_holds (barred_refusals d c.args.is_barred) (missing_or (table_at name d) (λ t. [])) c.in_err-refuse_change.field-0.0 c.in_err-refuse_change.ensures.early)
