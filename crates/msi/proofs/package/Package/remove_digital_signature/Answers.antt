use Rattle.std.proofs.lemmas.Result.{err_from_is_err_and}
use Rattle.msi.proofs.package.Package.remove_digital_signature.Goals as goal

pub returns-in_err-check_storages-clause-ok : goal.returns-in_err-check_storages-clause-ok
returns-in_err-check_storages-clause-ok g c = let p = err_from_is_err_and c.from_residual.result c.from_residual.ensures.1 in rw p.1 tt
