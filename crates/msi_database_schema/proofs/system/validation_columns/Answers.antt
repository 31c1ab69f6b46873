use Rattle.std.proofs.lemmas.Result.{err_from_is_err_and}
use Rattle.msi_database_schema.proofs.system.validation_columns.Goals as goal

pub returns-in_err-columns-clause-ok : goal.returns-in_err-columns-clause-ok
returns-in_err-columns-clause-ok c = let p = err_from_is_err_and c.from_residual.result c.from_residual.ensures.1 in rw p.1 tt

pub returns-in_err-referring-clause-ok : goal.returns-in_err-referring-clause-ok
returns-in_err-referring-clause-ok c = let p = err_from_is_err_and c.from_residual-in_err-referring.result c.from_residual-in_err-referring.ensures.1 in rw p.1 tt

pub returns-in_err-describing-clause-ok : goal.returns-in_err-describing-clause-ok
returns-in_err-describing-clause-ok c = let p = err_from_is_err_and c.from_residual-in_err-describing.result c.from_residual-in_err-describing.ensures.1 in rw p.1 tt

pub returns-in_err-append-clause-ok : goal.returns-in_err-append-clause-ok
returns-in_err-append-clause-ok c = let p = err_from_is_err_and c.from_residual-in_err-append.result c.from_residual-in_err-append.ensures.1 in rw p.1 tt

pub returns-in_err-append-2-clause-ok : goal.returns-in_err-append-2-clause-ok
returns-in_err-append-2-clause-ok c = let p = err_from_is_err_and c.from_residual-in_err-append-2.result c.from_residual-in_err-append-2.ensures.1 in rw p.1 tt
