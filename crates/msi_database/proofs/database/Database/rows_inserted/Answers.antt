use Rattle.msi_base.proofs.RefusalLemmas.{first_answered, none_answered}
use Rattle.msi_database_changes.specs.Insert.{early_insert_refusals}
use Rattle.msi_database.specs.Making.{insert_of}
use Rattle.msi_database.proofs.database.Database.rows_inserted.Goals as goal

pub returns-in_err-table-clause-early : goal.returns-in_err-table-clause-early
returns-in_err-table-clause-early c =
    first_answered (early_insert_refusals c.args.self.now.database (insert_of c.args.insert)) c.from_residual.result c.in_err-table.field-0.0 c.from_residual.ensures.1 c.in_err-table.ensures.early

pub returns-clause-early : goal.returns-clause-early
returns-clause-early c = none_answered (early_insert_refusals c.args.self.now.database (insert_of c.args.insert)) c.inserted.result c.in_ok-table.ensures.passed
