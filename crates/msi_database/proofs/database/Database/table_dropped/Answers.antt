use Rattle.std.proofs.Common.{refl}
use Rattle.msi_base.proofs.RefusalLemmas.{first_answered, none_answered}
use Rattle.msi_database_changes.specs.Drop.{early_drop_refusals}
use Rattle.msi_database.proofs.database.Database.table_dropped.Goals as goal

pub returns-in_err-table-clause-early : goal.returns-in_err-table-clause-early
returns-in_err-table-clause-early c =
    first_answered (early_drop_refusals c.args.self.now.database c.args.name.now) c.from_residual.result c.in_err-table.field-0.0 c.from_residual.ensures.1 c.in_err-table.ensures.early

pub returns-clause-early : goal.returns-clause-early
returns-clause-early c = none_answered (early_drop_refusals c.args.self.now.database c.args.name.now) c.dropped.result c.in_ok-table.ensures.passed
