use Rattle.std.proofs.Common.{ap}
use Rattle.msi_database.specs.Database.{is_sound}
use Rattle.msi_database_storage.specs.Kept.{Kept}
use Rattle.msi.proofs.packages.ChangeLemmas.{after_check}
use Rattle.std.proofs.lemmas.Result.{err_from_is_err_and}
use Rattle.msi.proofs.package.Package.set_database_codepage.Goals as goal

pub invariant_of-self-2 : goal.invariant_of-self-2
invariant_of-self-2 g c =
    after_check c.settle.new.database c.set_codepage.new.self c.settle.new.name _ c.settle.ensures.taken
    c.in_ok-set_codepage.ensures.answer (ap (λ (k : Kept). is_sound k.database) c.in_ok-set_codepage.ensures.ok)

pub returns-in_err-check_storages-clause-ok : goal.returns-in_err-check_storages-clause-ok
returns-in_err-check_storages-clause-ok g c = let p = err_from_is_err_and c.from_residual.result c.from_residual.ensures.1 in rw p.1 tt

pub returns-in_err-set_codepage-clause-ok : goal.returns-in_err-set_codepage-clause-ok
returns-in_err-set_codepage-clause-ok g c = let p = err_from_is_err_and c.from_residual-in_err-set_codepage.result c.from_residual-in_err-set_codepage.ensures.1 in rw p.1 tt
