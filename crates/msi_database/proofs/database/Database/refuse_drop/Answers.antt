use Rattle.std.proofs.lemmas.Result.{err_from_is_err_and}
use Rattle.msi_database.proofs.database.Database.refuse_drop.Goals as goal

pub returns-in_err-refuse_change-clause-sound : goal.returns-in_err-refuse_change-clause-sound
returns-in_err-refuse_change-clause-sound c = let p = err_from_is_err_and c.from_residual.result c.from_residual.ensures.1 in rw p.1 tt

pub returns-in_err-refuse_change-clause-free : goal.returns-in_err-refuse_change-clause-free
returns-in_err-refuse_change-clause-free c = let p = err_from_is_err_and c.from_residual.result c.from_residual.ensures.1 in rw p.1 tt

pub returns-in_err-refuse_change-clause-named : goal.returns-in_err-refuse_change-clause-named
returns-in_err-refuse_change-clause-named c = let p = err_from_is_err_and c.from_residual.result c.from_residual.ensures.1 in rw p.1 tt

pub returns-in_err-refuse_change-clause-passed : goal.returns-in_err-refuse_change-clause-passed
returns-in_err-refuse_change-clause-passed c = let p = err_from_is_err_and c.from_residual.result c.from_residual.ensures.1 in rw p.1 tt
