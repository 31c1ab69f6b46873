use Rattle.std.proofs.Common.{[]}
use Rattle.msi_base.proofs.RefusalLemmas.{err_is, err_passed}
use Rattle.msi_database_changes.specs.Changes.{missing_or}
use Rattle.msi_database_changes.specs.Database.{table_at}
use Rattle.msi_database_changes.proofs.steps.RefusedLemmas.{front_holds}
use Rattle.msi_database_changes.specs.Drop.{drop_refusals, drop_table, early_drop_refusals}
use Rattle.msi_database.proofs.calls.RefusedCallLemmas.{drop_barred}
use Rattle.std.proofs.lemmas.Result.{err_from_is_err_and}
use Rattle.msi_database.proofs.database.Database.table_to_drop.Goals as goal

pub returns-in_err-refuse_drop-clause-kind : goal.returns-in_err-refuse_drop-clause-kind
returns-in_err-refuse_drop-clause-kind c = let d = c.args.self.now.database in let name = c.args.name.now in
    err_passed c.from_residual.result c.in_err-refuse_drop.field-0.0 (drop_table d name) c.from_residual.ensures.1
    (drop_barred d name c.in_err-refuse_drop.field-0.0 c.in_err-refuse_drop.ensures.kind)

pub returns-in_err-refuse_drop-clause-early : goal.returns-in_err-refuse_drop-clause-early
returns-in_err-refuse_drop-clause-early c = let d = c.args.self.now.database in let name = c.args.name.now in
    err_is c.from_residual.result c.in_err-refuse_drop.field-0.0 (early_drop_refusals d name) c.from_residual.ensures.1
    (front_holds (drop_refusals d name) (missing_or (table_at name d) (λ t. [])) c.in_err-refuse_drop.field-0.0 c.in_err-refuse_drop.ensures.early)

pub returns-in_err-refuse_drop-clause-sound : goal.returns-in_err-refuse_drop-clause-sound
returns-in_err-refuse_drop-clause-sound c = let p = err_from_is_err_and c.from_residual.result c.from_residual.ensures.1 in rw p.1 tt

pub returns-in_err-refuse_drop-clause-free : goal.returns-in_err-refuse_drop-clause-free
returns-in_err-refuse_drop-clause-free c = let p = err_from_is_err_and c.from_residual.result c.from_residual.ensures.1 in rw p.1 tt

pub returns-in_err-refuse_drop-clause-named : goal.returns-in_err-refuse_drop-clause-named
returns-in_err-refuse_drop-clause-named c = let p = err_from_is_err_and c.from_residual.result c.from_residual.ensures.1 in rw p.1 tt

pub returns-in_err-refuse_drop-clause-known : goal.returns-in_err-refuse_drop-clause-known
returns-in_err-refuse_drop-clause-known c = let p = err_from_is_err_and c.from_residual.result c.from_residual.ensures.1 in rw p.1 tt

pub returns-in_err-refuse_drop-clause-passed : goal.returns-in_err-refuse_drop-clause-passed
returns-in_err-refuse_drop-clause-passed c = let p = err_from_is_err_and c.from_residual.result c.from_residual.ensures.1 in rw p.1 tt
