use Rattle.std.proofs.lemmas.Result.{err_from_is_err_and}
use Rattle.msi_database.proofs.database.Database.refuse_change.Goals as goal

pub returns-in_err-check_sound-clause-passed : goal.returns-in_err-check_sound-clause-passed
returns-in_err-check_sound-clause-passed c = let p = err_from_is_err_and c.from_residual.result c.from_residual.ensures.1 in rw p.1 tt

pub returns-in_err-check_sound-clause-sound : goal.returns-in_err-check_sound-clause-sound
returns-in_err-check_sound-clause-sound c = let p = err_from_is_err_and c.from_residual.result c.from_residual.ensures.1 in rw p.1 tt

pub returns-in_err-check_sound-clause-free : goal.returns-in_err-check_sound-clause-free
returns-in_err-check_sound-clause-free c = let p = err_from_is_err_and c.from_residual.result c.from_residual.ensures.1 in rw p.1 tt
